-- What a round tells where its exchange gives no body, and of which request.
use Rattle.std.proofs.Common.{◌≡◌, ◌≢◌, ℕ, max, refl, inl, inr, ap, subst, ◌∙◌, arith, List, Option, Result, Ok, Err}
use Rattle.std.specs.Prelude.{IfOk, IfErr}
use Rattle.co_noise.specs.Shapes.{Numbers}
use Rattle.co_wire.specs.Lengths.{reply_size, reply_limit}
use Rattle.co_link.specs.declared.messages.Target.{Target}
use Rattle.co_link.specs.declared.messages.Target.TheVariants.{Public, Keys, Score, Meta, Document}
use Rattle.co_link.specs.declared.messages.Request.{Request}
use Rattle.co_link.specs.declared.messages.Exchange.{Exchange}
use Rattle.co_client.specs.declared.fault.SearchFault.{SearchFault}
use Rattle.co_client.specs.declared.fault.SearchFault.TheVariants.{Link, Refused, BadReply, OutOfMemory}
use Rattle.co_client.specs.Openings.{IsRefusedBody}
use Rattle.co_rounds.specs.Answers.{reply_with}
use Rattle.co_link.specs.Exchanges.{LinkCall}
use Rattle.co_client.specs.Rounds.{Comes, Gives, AskFails, RoundFails, LinkFails}

pub ask-round : (size : ℕ) (was now : Option (List Exchange)) (r : Request) (fault : SearchFault) → AskFails was now r fault → RoundFails size was now r fault
ask-round size was now r (Refused target status) h = h
ask-round size was now r Link h = h
ask-round size was now r OutOfMemory h = inl h
ask-round size was now r fault h = absurd h

-- a reply whose body is refused
pub body-round : (size : ℕ) (was now : Option (List Exchange)) (r : Request) (body : List ℕ) (fault : SearchFault) → Comes was now r (reply_with 200 body) → IsRefusedBody size r.target body fault → RoundFails size was now r fault
body-round size was now r body (BadReply target place) c h = record { target_is = h.0; body = body; bad = h.1; comes = c }
body-round size was now r body OutOfMemory c h = inr (record { reply = reply_with 200 body; comes = c })
body-round size was now r body fault c h = absurd h

-- what is said of a request with queries is said of the bytes that spell them
pub gives-asked : (n count many : ℕ) (was now : Option (List Exchange)) (target : Target) (body bytes : List ℕ) (result : Result (List ℕ) SearchFault) → count ≡ many → body ≡ bytes
    → IfOk result (Gives n count was now (record { target = target; body = body })) → IfOk result (Gives n many was now (record { target = target; body = bytes }))
gives-asked n count many was now target body bytes result c b h =
    subst (λ (k : ℕ). IfOk result (Gives n k was now (record { target = target; body = bytes }))) c (subst (λ (x : List ℕ). IfOk result (Gives n count was now (record { target = target; body = x }))) b h)

pub fails-asked : (size : ℕ) (was now : Option (List Exchange)) (target : Target) (body bytes : List ℕ) (result : Result (List ℕ) SearchFault) → body ≡ bytes
    → IfErr result (RoundFails size was now (record { target = target; body = body })) → IfErr result (RoundFails size was now (record { target = target; body = bytes }))
fails-asked size was now target body bytes result b h = subst (λ (x : List ℕ). IfErr result (RoundFails size was now (record { target = target; body = x }))) b h

-- the most bytes of a reply to queries
pub limit-is : (s : Numbers) (target : Target) → target ≢ Public → target ≢ Keys → max (reply_size s target) 256 ≡ reply_limit s target
limit-is s Public public keys = absurd (public refl)
limit-is s Keys public keys = refl
limit-is s Score public keys = omega arith
limit-is s Meta public keys = omega arith
limit-is s Document public keys = omega arith

-- a failed link of one call, as that of a search
err-conv : {A B : Type 0} (x y : SearchFault) → ◌≡◌ {A = Result A SearchFault} (Err x) (Err y) → ◌≡◌ {A = Result B SearchFault} (Err x) (Err y)
err-conv {A} {B} x y e = ap (λ (r : Result A SearchFault). elim r as (λ _. Result B SearchFault) [ Ok z ↦ Err x | Err f ↦ Err f ]) e

pub fails-as : {A B : Type 0} (before now : ℕ) (is : Option LinkCall) (call : LinkCall) (r : Result A SearchFault) (fault : SearchFault) → LinkFails {T = A} before now is call r → r ≡ Err fault → LinkFails {T = B} before now is call (Err fault)
fails-as {A} {B} before now is call r fault h e = record { later = h.later; failed = λ f. h.failed (e ∙ err-conv {A = B} {B = A} fault Link f) }
