use Rattle.std.proofs.Common.{◌≡◌, arith, subst, sym, ap, ◌∙◌, map, take}
use Rattle.std.proofs.lemmas.List.{take_all}
use Rattle.co_math.specs.Parameters.{q, plain_modulus}
use Rattle.co_math.specs.Coefficients.{AreBelow}
use Rattle.co_ring.specs.declared.moduli.Modulus.{Modulus}
use Rattle.co_ring.specs.Moduli.{value_of}
use Rattle.co_bfv.specs.Encryptions.{delta}
use Rattle.co_bfv.proofs.Encrypted.{scaled_below}
use Rattle.co_bfv.proofs.Mapped.{one_more_mapped}
use Rattle.co_bfv.proofs.encryption.scale.Goals as goal

pub split-requires-clause-reduced : goal.split-requires-clause-reduced
split-requires-clause-reduced c =
    let xs = c.args.message.now.coeffs in
    let valid = c.degree.ensures.valid in
    let below : AreBelow plain_modulus xs = subst (λ (m : Modulus). AreBelow (value_of m) xs) c.requires valid.below in
    let all : take c.loop-k.k xs ≡ xs = take_all c.loop-k.k xs (omega (arith, c.degree-k-end.ensures.value)) in
    let is : c.deref.result.now ≡ map delta xs = c.deref.ensures.value ∙ c.loop-k.invariant ∙ ap (map delta) all in
    subst (AreBelow q) (sym is) (scaled_below xs below)

pub loop-k-preserved : goal.loop-k-preserved
loop-k-preserved c =
    one_more_mapped delta c.args.message.now.coeffs c.loop-k.scaled.items c.push.new.self.items c.loop-k.k 0 c.scale_one.result c.loop-k.invariant (omega (arith, c.loop-k-test.true, c.degree-k-end.ensures.value)) c.in_ok-push.ensures.items (c.scale_one.ensures.value ∙ ap delta c.coeff.ensures.value)
