use Rattle.std.proofs.Common.{length, arith}
use Rattle.co_rns.specs.Residue_pairs.{all_composed}
use Rattle.co_rns.proofs.Composing.{length-all_composed}
use Rattle.co_rns.proofs.Wholes.{filled_digits}
use Rattle.co_math.specs.Parameters.{digit_base}
use Rattle.co_rns.proofs.parts.write_digits.Goals as goal

pub returns-clause-first_digits : goal.returns-clause-first_digits
returns-clause-first_digits c =
    filled_digits digit_base c.args.index (length c.args.first.now.coeffs) c.loop-k.k (all_composed c.args.first.now.coeffs c.args.second.now.coeffs) c.loop-k.into_first.coeffs c.loop-k.invariant.first_digits
    (omega (arith, c.degree-k-end.ensures.value)) (length-all_composed c.args.first.now.coeffs c.args.second.now.coeffs c.requires.one_degree)

pub returns-clause-second_digits : goal.returns-clause-second_digits
returns-clause-second_digits c =
    filled_digits digit_base c.args.index (length c.args.first.now.coeffs) c.loop-k.k (all_composed c.args.first.now.coeffs c.args.second.now.coeffs) c.loop-k.into_second.coeffs c.loop-k.invariant.second_digits
    (omega (arith, c.degree-k-end.ensures.value)) (length-all_composed c.args.first.now.coeffs c.args.second.now.coeffs c.requires.one_degree)
