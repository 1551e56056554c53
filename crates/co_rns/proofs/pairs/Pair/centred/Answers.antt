use Rattle.std.proofs.Common.{refl, length}
use Rattle.co_rns.specs.Residue_pairs.{centred_coefficients}
use Rattle.co_rns.proofs.Wholes.{combined, constant_agree}
use Rattle.co_ring.specs.declared.moduli.Modulus.TheVariants.{First, Second}
use Rattle.co_rns.proofs.pairs.Pair.centred.Goals as goal
use Rattle.co_math.specs.Parameters.{first_modulus, second_modulus}

pub returns : goal.returns
returns c =
    let f = centred_coefficients c.args.plain.now.coeffs in
    let n = length c.args.plain.now.coeffs in
    combined n n n f f First Second c.in_ok-centred.field-0 c.in_ok-centred-2.field-0 refl refl refl refl c.in_ok-centred.ensures c.in_ok-centred-2.ensures f (constant_agree first_modulus f) (constant_agree second_modulus f)
