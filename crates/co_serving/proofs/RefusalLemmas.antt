-- What a message is refused by.
use Rattle.std.proofs.Common.{◌≡◌, ℕ, Bool, true, false, Option, Some, None, Result, List, refl, sym, ap, ◌∙◌, subst}
use Rattle.std.specs.Prelude.{◌==◌}
use Rattle.co_link.specs.declared.messages.Target.{Target}
use Rattle.co_http.specs.Conn.{ReadsHead}
use Rattle.co_http.specs.Targets.{verb_for}
use Rattle.co_http.specs.declared.fault.HttpFault.{HttpFault}
use Rattle.co_http.specs.declared.request_head.Head.{Head}
use Rattle.co_http.specs.declared.request_head.Verb.{Verb}
use Rattle.co_http.specs.declared.request_head.Verb.TheVariants.{Get, Post, Other}
use Rattle.co_serving.specs.declared.response.Response.{Response}
use Rattle.co_serving.specs.declared.response.Response.TheVariants.{Refused, WrongLength}
use Rattle.co_serving.specs.Conversation.{closes, is_same, wrong_length, length_refusal, method_refusal, target_refusal, refusal}

-- an unknown target
pub refusal_unknown : (wanted : Target → ℕ) (head : Head) → head.target ≡ None → refusal wanted head ≡ Some (Refused 404)
unfolding refusal
refusal_unknown wanted head none = ap (target_refusal wanted head) none

-- a known target
pub refusal_known : (wanted : Target → ℕ) (head : Head) (target : Target) (count : ℕ) (verb : Verb) → head.target ≡ Some target → count ≡ wanted target → verb ≡ verb_for target
    → refusal wanted head ≡ method_refusal count verb head
unfolding refusal
refusal_known wanted head target count verb is counts verbs =
    ap (target_refusal wanted head) is ∙ ap (λ n. method_refusal n (verb_for target) head) (sym counts) ∙ ap (λ v. method_refusal count v head) (sym verbs)

length_closes : (wanted found : ℕ) (answer : Response) → wrong_length wanted found ≡ Some answer → closes answer ≡ true
length_closes wanted found answer is = step (found == wanted) refl
  where
    step : (b : Bool) → (found == wanted) ≡ b → closes answer ≡ true
    step true same = let none : wrong_length wanted found ≡ None = simp same in absurd (cc)
    step false other = let some : wrong_length wanted found ≡ Some (WrongLength wanted found) = simp other in let e : WrongLength wanted found ≡ answer = cc in sym (ap closes e)

declared_closes : (wanted : ℕ) (verb : Verb) (found : Option ℕ) (answer : Response) → length_refusal wanted verb found ≡ Some answer → closes answer ≡ true
declared_closes wanted Get (Some found) answer is = length_closes wanted found answer is
declared_closes wanted Post (Some found) answer is = length_closes wanted found answer is
declared_closes wanted Other (Some found) answer is = length_closes wanted found answer is
declared_closes wanted Get None answer is = length_closes wanted 0 answer is
declared_closes wanted Other None answer is = length_closes wanted 0 answer is
declared_closes wanted Post None answer is = let e : Refused 411 ≡ answer = cc in sym (ap closes e)

method_closes : (wanted : ℕ) (verb : Verb) (head : Head) (answer : Response) → method_refusal wanted verb head ≡ Some answer → closes answer ≡ true
method_closes wanted verb head answer is = step (is_same verb head.method) refl
  where
    step : (b : Bool) → is_same verb head.method ≡ b → closes answer ≡ true
    step true same = let some : method_refusal wanted verb head ≡ length_refusal wanted verb head.length = simp same in declared_closes wanted verb head.length answer (sym some ∙ is)
    step false other = let some : method_refusal wanted verb head ≡ Some (Refused 405) = simp other in let e : Refused 405 ≡ answer = cc in sym (ap closes e)

-- every refusal closes
pub refusal_closes : (wanted : Target → ℕ) (head : Head) (answer : Response) → refusal wanted head ≡ Some answer → closes answer ≡ true
unfolding refusal
refusal_closes wanted head answer is = step head.target refl
  where
    step : (target : Option Target) → head.target ≡ target → closes answer ≡ true
    step None none = let some : Some (Refused 404) ≡ Some answer = sym (ap (target_refusal wanted head) none) ∙ is in let e : Refused 404 ≡ answer = cc in sym (ap closes e)
    step (Some target) some = method_closes (wanted target) (verb_for target) head answer (sym (ap (target_refusal wanted head) some) ∙ is)

-- what a call answered, where its result is known
pub reads_at : (first : Option HttpFault) (old new : Option (List ℕ)) (result known : Result (Option Head) HttpFault) → result ≡ known → ReadsHead first old new result → ReadsHead first old new known
reads_at first old new result known is reads = let P : Result (Option Head) HttpFault → Type 0 = ReadsHead first old new in subst P is reads
