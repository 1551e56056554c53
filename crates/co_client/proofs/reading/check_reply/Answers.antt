use Rattle.std.proofs.Common.{◌≡◌, ℕ, ◌+◌, ◌*◌, ◌≤◌, ◌∙◌, sym, ap, subst, refl, inr, arith, List, length}
use Rattle.std.proofs.Math.Nat.{mul-le-mul_right}
use Rattle.co_wire.specs.Bodies.{SpellsCiphers, IsFirstOutOfRange}
use Rattle.co_client.proofs.Spelled.{none-spelled, one-spelled, all-spelled}
use Rattle.co_client.proofs.Ranged.{first-behind}
use Rattle.co_client.proofs.reading.check_reply.Goals as goal

pub loop-at-init : goal.loop-at-init
loop-at-init c = none-spelled c.args.degree c.args.body.now

pub loop-at-preserved : goal.loop-at-preserved
loop-at-preserved c =
    one-spelled c.args.degree c.loop-at.at c.args.body.now c.in-Ok.ciphers.items c.loop-at.invariant (subst (λ (piece : List ℕ). SpellsCiphers c.args.degree 1 c.in-Ok.ciphers.items piece) c.piece_at.ensures c.in-Ok.ensures.spelled)

pub returns-clause-spelled : goal.returns-clause-spelled
returns-clause-spelled c =
    let long : length c.args.body.now ≡ c.args.count * (28 * c.get-n.result) = omega arith in
    all-spelled c.args.degree c.args.count c.loop-at.at c.args.body.now c.loop-at.invariant (omega arith) (long ∙ ap (λ (k : ℕ). c.args.count * (28 * k)) c.get-n.ensures.value)

pub returns-in-Err-Range-clause-refused : goal.returns-in-Err-Range-clause-refused
returns-in-Err-Range-clause-refused c =
    let n = c.args.degree in
    let at = c.loop-at.at in
    let body = c.args.body.now in
    let place = c.in-Err-Range.place in
    let same : c.get-n.result ≡ n = c.get-n.ensures.value in
    let full : length body ≡ c.args.count * (28 * c.get-n.result) = omega arith in
    let long : length body ≡ c.args.count * (28 * n) = full ∙ ap (λ (k : ℕ). c.args.count * (28 * k)) same in
    let next : at + 1 ≤ c.args.count = omega arith in
    let room : (at + 1) * (28 * n) ≤ length body = omega (arith, mul-le-mul_right (28 * n) next, long) in
    let fault = rw c.in-Err-Range.field-0-is at c.in-Err-Range.ensures.fault in
    let here = subst (λ (piece : List ℕ). IsFirstOutOfRange piece place) c.piece_at.ensures fault.1 in
    (refl, inr (long, subst (λ (p : ℕ). IsFirstOutOfRange body (at * (28 * c.get-n.result) + p)) (sym c.in-Err-Range.place-is) (subst (λ (k : ℕ). IsFirstOutOfRange body (at * (28 * k) + place)) (sym same) (first-behind n at body place room c.loop-at.invariant here))))
