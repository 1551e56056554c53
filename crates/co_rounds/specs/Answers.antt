-- What a session over a library answers to a request, and which keys it holds then.
use Rattle.std.specs.Prelude.{◌≡◌, ◌≢◌, ℕ, Bool, true, false, List, [], ◌∷◌, ◌++◌, length, Option, Some, None, codes, decimal}
use Rattle.co_link.specs.declared.messages.Target.{Target}
use Rattle.co_link.specs.declared.messages.Target.TheVariants.{Public, Keys as ForKeys, Score, Meta, Document}
use Rattle.co_link.specs.declared.messages.Request.{Request}
use Rattle.co_link.specs.declared.messages.Reply.{Reply}
use Rattle.co_noise.specs.Shapes.{Numbers, keyword_blocks}
use Rattle.co_bucket.specs.Lists.{bucket_count}
use Rattle.co_bfv.specs.Ciphertexts.{Ciphertext}
use Rattle.co_switch.specs.Keys.{Keys}
use Rattle.co_wire.specs.Public.{public_bytes}
use Rattle.co_wire.specs.Bodies.{SpellsCiphers, SpellsKeys, ciphers_bytes, IsFirstOutOfRange}
use Rattle.co_wire.specs.Lengths.{request_size}
use Rattle.co_library.specs.Libraries.{Parts}
use Rattle.co_matvec.specs.Replies.{AreScoreReplies}
use Rattle.co_pir.specs.Replies.{retrieved}
use Rattle.co_rounds.specs.Serving.{weights_of, gathered, bin_table}
use Rattle.co_rounds.specs.declared.answer.Answer.{Answer}
use Rattle.co_rounds.specs.declared.answer.Answer.TheVariants.{Done, Length, NoKeys, Range, OutOfMemory}

-- ---- bodies of requests

-- the body spells so many ciphertexts of degree n
pub record Spells (n count : ℕ) (body : List ℕ) : Type 0 where
  pub ciphers : List Ciphertext
  pub spelled : SpellsCiphers n count ciphers body

-- the body hands over keys for the shape
pub record HandsOver (s : Numbers) (body : List ℕ) : Type 0 where
  pub keys : Keys
  pub spelled : SpellsKeys s keys body

-- a body that is answered: it spells what its target wants, and where keys are wanted some are held
abbrev pub IsGoodRequest : Numbers → Option Keys → Target → List ℕ → Type 0
IsGoodRequest s held Public body = body ≡ []
IsGoodRequest s held ForKeys body = HandsOver s body
IsGoodRequest s (Some keys) Score body = Spells s.degree (keyword_blocks s) body
IsGoodRequest s (Some keys) Meta body = Spells s.degree (bucket_count s.hits) body
IsGoodRequest s (Some keys) Document body = Spells s.degree 1 body
IsGoodRequest s None target body = ⊥

-- ---- bodies of replies

-- the body spells a query for each block of terms, and the reply the score replies to them
pub record IsScored (l : Parts) (keys : Keys) (body reply : List ℕ) : Type 0 where
  pub queries : List Ciphertext
  pub asked : SpellsCiphers l.shape.degree (keyword_blocks l.shape) queries body
  pub scores : List Ciphertext
  pub scored : AreScoreReplies (weights_of l) keys queries scores
  pub is : reply ≡ ciphers_bytes scores

-- the body spells a query for each bucket, and the reply the buckets' replies to them
pub record IsGathered (l : Parts) (keys : Keys) (body reply : List ℕ) : Type 0 where
  pub queries : List Ciphertext
  pub asked : SpellsCiphers l.shape.degree (bucket_count l.shape.hits) queries body
  pub is : reply ≡ ciphers_bytes (gathered l keys queries)

-- the body spells a query for a bin, and the reply the bins' reply to it
pub record IsFetched (l : Parts) (keys : Keys) (body reply : List ℕ) : Type 0 where
  pub query : Ciphertext
  pub asked : SpellsCiphers l.shape.degree 1 (query ∷ []) body
  pub is : reply ≡ ciphers_bytes (retrieved (bin_table l) keys query)

-- the reply to a good body, under the keys that are held
abbrev pub IsDone : Parts → Option Keys → Target → List ℕ → List ℕ → Type 0
IsDone l held Public body reply = (body ≡ []) × (reply ≡ public_bytes l.shape l.terms)
IsDone l held ForKeys body reply = HandsOver l.shape body × (reply ≡ [])
IsDone l (Some keys) Score body reply = IsScored l keys body reply
IsDone l (Some keys) Meta body reply = IsGathered l keys body reply
IsDone l (Some keys) Document body reply = IsFetched l keys body reply
IsDone l None target body reply = ⊥

-- ---- answers

-- whether a target is answered under keys
abbrev pub needs_keys : Target → Bool
needs_keys Public = false
needs_keys ForKeys = false
needs_keys Score = true
needs_keys Meta = true
needs_keys Document = true

-- no keys are held
abbrev pub holds_none : Option Keys → Bool
holds_none None = true
holds_none (Some keys) = false

-- keys are wanted, and none are held
pub record LacksKeys (held : Option Keys) (target : Target) : Type 0 where
  pub wants : needs_keys target ≡ true
  pub none : holds_none held ≡ true

-- what is answered to a request under the keys that are held: the first of the refusals whose cause
-- is there, or the reply; want of memory is free
abbrev pub IsAnswer : Parts → Option Keys → Request → Answer → Type 0
IsAnswer l held r (Length wanted found) =
    (wanted ≡ request_size l.shape r.target) × (found ≡ length r.body) × (found ≢ wanted)
IsAnswer l held r NoKeys = (length r.body ≡ request_size l.shape r.target) × LacksKeys held r.target
IsAnswer l held r (Range place) = (length r.body ≡ request_size l.shape r.target)
    × (LacksKeys held r.target → ⊥) × IsFirstOutOfRange r.body place
IsAnswer l held r (Done reply) = IsDone l held r.target r.body reply
IsAnswer l held r OutOfMemory = Unit {0}

-- ---- keys

-- the keys that are held after a request was done
abbrev pub HoldsDone : Numbers → Option Keys → Target → List ℕ → Option Keys → Type 0
HoldsDone s old ForKeys body (Some keys) = SpellsKeys s keys body
HoldsDone s old ForKeys body None = ⊥
HoldsDone s old Public body new = new ≡ old
HoldsDone s old Score body new = new ≡ old
HoldsDone s old Meta body new = new ≡ old
HoldsDone s old Document body new = new ≡ old

-- the keys that are held after an answer: those of a request for keys that was done, else those
-- before
abbrev pub Holds : Numbers → Option Keys → Request → Answer → Option Keys → Type 0
Holds s old r (Done reply) new = HoldsDone s old r.target r.body new
Holds s old r (Length wanted found) new = new ≡ old
Holds s old r NoKeys new = new ≡ old
Holds s old r (Range place) new = new ≡ old
Holds s old r OutOfMemory new = new ≡ old

-- ---- the reply that an answer becomes, by the statuses of HTTP (RFC 9110)

abbrev pub reply_with : ℕ → List ℕ → Reply
reply_with status body = record { status = status; body = body }

abbrev pub reply_of : Answer → Reply
reply_of (Done reply) = reply_with 200 reply
reply_of (Length wanted found) = reply_with 400 (codes "length "
    ++ (decimal wanted ++ (codes " " ++ (decimal found ++ (10 ∷ [])))))
reply_of NoKeys = reply_with 409 []
reply_of (Range place) = reply_with 400 (codes "range " ++ (decimal place ++ (10 ∷ [])))
reply_of OutOfMemory = reply_with 503 []
