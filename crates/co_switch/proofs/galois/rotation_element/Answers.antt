use Rattle.std.proofs.Common.{◌∙◌, ◌*◌, ◌%◌, ap, refl, arith}
use Rattle.std.proofs.lemmas.Nat.{pow_pos}
use Rattle.co_math.proofs.Degrees.{degree_most}
use Rattle.co_switch.proofs.Elements.{half_of, rotation_element-odd, rotation_element-first, rotation_element-next}
use Rattle.co_switch.proofs.galois.rotation_element.Goals as goal

pub loop-index-init : goal.loop-index-init
loop-index-init c =
    let h = half_of c.args.degree c.requires.degree in
    rotation_element-first c.args.degree (omega (arith, h.is, pow_pos h.exponent))

pub square-element-requires-clause-small : goal.square-element-requires-clause-small
square-element-requires-clause-small c = omega (arith, degree_most c.args.degree c.requires.degree)

pub loop-index-preserved : goal.loop-index-preserved
loop-index-preserved c =
    rotation_element-next c.args.degree c.loop-index.index c.loop-index.element c.square-element.result (2 * c.args.degree) c.loop-index.invariant refl c.square-element.ensures

pub returns-clause-odd : goal.returns-clause-odd
returns-clause-odd c = ap (λ x. x % 2) c.loop-index.invariant ∙ rotation_element-odd c.args.degree c.loop-index.index
