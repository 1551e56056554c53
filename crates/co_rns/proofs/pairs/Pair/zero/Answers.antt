use Rattle.std.proofs.Common.{refl, pos, ℤ}
use Rattle.co_rns.proofs.Wholes.{combined, constant_agree}
use Rattle.co_ring.specs.declared.moduli.Modulus.TheVariants.{First, Second}
use Rattle.co_rns.proofs.pairs.Pair.zero.Goals as goal
use Rattle.co_math.specs.Parameters.{first_modulus, second_modulus}

pub returns : goal.returns
returns c =
    let f : ℤ → ℤ = λ _. pos 0 in
    combined c.args.degree c.args.degree c.args.degree f f First Second c.in_ok-zero.field-0 c.in_ok-zero-2.field-0 refl refl refl refl c.in_ok-zero.ensures c.in_ok-zero-2.ensures f (constant_agree first_modulus f) (constant_agree second_modulus f)
