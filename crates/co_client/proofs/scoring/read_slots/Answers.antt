use Rattle.std.proofs.Common.{◌≡◌, ℕ, ◌∙◌, ap, subst, arith, List}
use Rattle.co_slots.specs.Slots.{slot}
use Rattle.co_bfv.specs.Totals.{ciphertext_at}
use Rattle.co_wire.specs.Bodies.{SpellsCiphers}
use Rattle.co_bfv.specs.Encryptions.{decrypted}
use Rattle.co_client.proofs.Scores.{slots-below}
use Rattle.co_client.proofs.scoring.read_slots.Goals as goal

pub returns-clause-slots : goal.returns-clause-slots
returns-clause-slots c = λ cs count s p l.
    let degree : c.args.reader.now.shape.degree ≡ c.of-degree.result = grind arith in
    let there = subst (λ (k : ℕ). SpellsCiphers k count cs c.args.body.now) degree s in
    let same : c.in_ok-message.message.coeffs ≡ decrypted c.args.reader.now.secret (ciphertext_at cs c.args.block) =
    ap (λ q. q.coeffs) c.in_ok-message.ensures.value ∙ (λ t. decrypted (c.secret-secret.ensures.value t) (c.in_ok-cipher.ensures.value cs count there t)) in
    let long = c.decode.ensures.slots.len in
    c.decode.ensures.slots.each p (omega (arith, long, c.requires.slots_degree)) ∙ ap (λ (xs : List ℕ). slot xs p) same

pub returns-clause-small : goal.returns-clause-small
returns-clause-small c = slots-below _ _ c.decode.ensures.slots
