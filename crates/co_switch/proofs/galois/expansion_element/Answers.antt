use Rattle.std.proofs.Common.{arith}
use Rattle.std.proofs.lemmas.Nat.{pow_pos}
use Rattle.co_switch.proofs.Elements.{half_of, expansion_element-odd, expansion_element-lt}
use Rattle.co_switch.proofs.galois.expansion_element.Goals as goal

pub overflow_shr-result : goal.overflow_shr-result
overflow_shr-result c =
    let h = half_of c.args.degree c.requires.degree in
    omega (arith, h.log, h.few, c.requires.within)

pub returns-clause-odd : goal.returns-clause-odd
returns-clause-odd c =
    let h = half_of c.args.degree c.requires.degree in
    expansion_element-odd c.args.degree c.args.j h (omega (arith, h.log, c.requires.within))

pub returns-clause-within : goal.returns-clause-within
returns-clause-within c =
    let h = half_of c.args.degree c.requires.degree in
    expansion_element-lt c.args.degree c.args.j (omega (arith, h.is, pow_pos h.exponent))
