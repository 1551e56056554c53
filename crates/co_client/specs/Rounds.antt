-- What one round of a search does over a link: an exchange, and what is refused of its reply.
use Rattle.std.specs.Prelude.{◌≡◌, ◌≢◌, ◌≤◌, ◌⊎◌, ℕ, ℤ, List, [], ◌∷◌, ◌++◌, map, Option, Some, None, Result, Err}
use Rattle.co_link.specs.Causes.{Rose}
use Rattle.co_link.specs.Exchanges.{LinkCall, exchange_of}
use Rattle.co_link.specs.declared.messages.Target.{Target}
use Rattle.co_link.specs.declared.messages.Request.{Request}
use Rattle.co_link.specs.declared.messages.Reply.{Reply}
use Rattle.co_link.specs.declared.messages.Exchange.{Exchange}
use Rattle.rand_core.specs.Stream.{Stream}
use Rattle.co_link.specs.declared.messages.Target.TheVariants.{Keys as ForKeys}
use Rattle.co_math.specs.Coefficients.{AreBelow}
use Rattle.co_noise.specs.Shapes.{Numbers, levels, document_blocks}
use Rattle.co_bfv.specs.Ciphertexts.{Ciphertext}
use Rattle.co_bfv.specs.Draws.{secret_draw}
use Rattle.co_text.specs.declared.ranks.Ranked.{Ranked}
use Rattle.co_text.specs.Ranking.{ranking}
use Rattle.co_switch.specs.Keys.{Keys}
use Rattle.co_switch.specs.Draws.{key_set_draw}
use Rattle.co_wire.specs.Bodies.{keys_bytes, ciphers_bytes, SpellsCiphers}
use Rattle.co_wire.specs.Lengths.{reply_limit}
use Rattle.co_rounds.specs.Answers.{reply_with}
use Rattle.co_rounds.specs.Asked.{encryptions_draw, row_message}
use Rattle.co_rounds.specs.Scoring.{scores_read}
use Rattle.co_client.specs.Openings.{IsBadReply, AreSpelled}
use Rattle.co_client.specs.declared.fault.SearchFault.{SearchFault}
use Rattle.co_client.specs.declared.fault.SearchFault.TheVariants.{Link, Refused, BadReply, OutOfMemory}

-- a reader of a library: its numbers, which passed the test, and the secret
pub record ReaderState : Type 0 where
  pub shape : Numbers
  pub secret : List ℤ

-- ---- exchanges

-- the exchange of this request with this reply came, where the link tells its exchanges
abbrev pub Comes : Option (List Exchange) → Option (List Exchange) → Request → Reply → Type 0
Comes None now r reply = now ≡ None
Comes (Some es) now r reply = now ≡ Some (es ++ (exchange_of r reply ∷ []))

-- no exchange came
abbrev pub ComesNone : Option (List Exchange) → Option (List Exchange) → Type 0
ComesNone None now = now ≡ None
ComesNone (Some es) now = now ≡ Some es

-- the reply was refused for its status
pub record RefusesStatus (was now : Option (List Exchange)) (r : Request) (target : Target)
    (status : ℕ) : Type 0 where
  pub target_is : target ≡ r.target
  pub bad : status ≢ 200
  pub body : List ℕ
  pub bytes : AreBelow 256 body
  pub comes : Comes was now r (reply_with status body)

-- the reply was refused for its body, which is to have so many bytes
pub record RefusesBody (size : ℕ) (was now : Option (List Exchange)) (r : Request) (target : Target)
    (place : ℕ) : Type 0 where
  pub target_is : target ≡ r.target
  pub body : List ℕ
  pub bad : IsBadReply size body place
  pub comes : Comes was now r (reply_with 200 body)

-- some exchange of the request came
pub record ComesSomehow (was now : Option (List Exchange)) (r : Request) : Type 0 where
  pub reply : Reply
  pub comes : Comes was now r reply

-- what an exchange tells where it gives no body
abbrev pub AskFails : Option (List Exchange) → Option (List Exchange) → Request
    → SearchFault → Type 0
AskFails was now r (Refused target status) = RefusesStatus was now r target status
AskFails was now r Link = ComesNone was now
AskFails was now r OutOfMemory = ComesNone was now
AskFails was now r fault = ⊥

-- what a round tells where it gives nothing: want of memory before the exchange or after it, a
-- failed link, or the reply that is refused
abbrev pub RoundFails : ℕ → Option (List Exchange) → Option (List Exchange) → Request
    → SearchFault → Type 0
RoundFails size was now r (Refused target status) = RefusesStatus was now r target status
RoundFails size was now r (BadReply target place) = RefusesBody size was now r target place
RoundFails size was now r Link = ComesNone was now
RoundFails size was now r OutOfMemory = ComesNone was now ⊎ ComesSomehow was now r
RoundFails size was now r fault = ⊥

-- a failed link has its cause: the count rose, and the last failed exchange is this call
pub record LinkFails {T : Type 0} (before now : ℕ) (is : Option LinkCall) (call : LinkCall)
    (result : Result T SearchFault) : Type 0 where
  pub later : before ≤ now
  pub failed : result ≡ Err Link → Rose before now × (is ≡ Some call)

-- the call of a round behind the first, for this
abbrev pub round_call : Numbers → Target → LinkCall
round_call s target = record { target = target; limit = reply_limit s target }

-- ---- the round of the keys

-- the secret is the first draw, the key set the next
unfoldable pub keys_asked : Numbers → Stream → Keys × Stream
keys_asked s stream =
    let secret = secret_draw s.degree stream in key_set_draw secret.0 (levels s) secret.1

-- the request that hands them over
unfoldable pub keys_request : Numbers → Stream → Request
keys_request s stream = record { target = ForKeys; body = keys_bytes (keys_asked s stream).0 }

-- ---- rounds of queries

-- the request whose body spells the encryptions of messages, drawn one after another
unfoldable pub queries_request : Target → List ℤ → List (List ℕ) → Stream → Request
queries_request target secret messages stream =
    record { target = target; body = ciphers_bytes (encryptions_draw secret messages stream).0 }

-- what the draws leave
abbrev pub queries_rest : List ℤ → List (List ℕ) → Stream → Stream
queries_rest secret messages stream = (encryptions_draw secret messages stream).1

-- the messages that ask each bucket for a row
abbrev pub record_messages : Numbers → List ℕ → List (List ℕ)
record_messages s rows = map (row_message s.degree s.rows) rows

-- the message that asks for a bin
abbrev pub bin_messages : Numbers → ℕ → List (List ℕ)
bin_messages s bin = row_message s.degree s.bins bin ∷ []

-- the exchange gave a body that spells so many ciphertexts
pub record Gives (n count : ℕ) (was now : Option (List Exchange)) (r : Request) (body : List ℕ)
    : Type 0 where
  pub comes : Comes was now r (reply_with 200 body)
  pub spelled : AreSpelled n count body

-- the ranking by the scores that the replies show
pub record Ranks (s : Numbers) (secret : List ℤ) (was now : Option (List Exchange)) (r : Request)
    (hits : List Ranked) : Type 0 where
  pub body : List ℕ
  pub comes : Comes was now r (reply_with 200 body)
  pub replies : List Ciphertext
  pub spelled : SpellsCiphers s.degree (document_blocks s) replies body
  pub are : hits ≡ ranking s.hits (scores_read s secret replies)
