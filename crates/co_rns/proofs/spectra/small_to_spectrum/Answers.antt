use Rattle.std.proofs.Common.{ℕ, sym, ap, subst, ◌∙◌, arith}
use Rattle.co_math.specs.Coefficients.{coefficients, AreBelow}
use Rattle.co_math.specs.Parameters.{first_modulus, second_modulus}
use Rattle.co_ring.specs.Moduli.{value_of}
use Rattle.co_ring.specs.declared.moduli.Modulus.TheVariants.{First, Second}
use Rattle.co_rns.proofs.Wholes.{constant_agree}
use Rattle.co_rns.proofs.Spectra_agree.{part_values}
use Rattle.co_rns.proofs.spectra.small_to_spectrum.Goals as goal

pub forward_coeffs-requires-clause-reduced : goal.forward_coeffs-requires-clause-reduced
forward_coeffs-requires-clause-reduced c = subst (λ (m : ℕ). AreBelow m c.args.coeffs.now) (ap value_of (sym c.tables.invariant.first_modulus_is)) c.requires.small

pub forward_coeffs-requires-2-clause-reduced : goal.forward_coeffs-requires-2-clause-reduced
forward_coeffs-requires-2-clause-reduced c =
    subst (λ (m : ℕ). AreBelow m c.args.coeffs.now) (ap value_of (sym c.tables.invariant.second_modulus_is)) (λ k u. omega (arith, c.requires.small k u))

pub returns : goal.returns
returns c =
    let t = c.tables.inside in
    let f = coefficients c.args.coeffs.now in
    record {
      first_values = part_values t.first.modulus First t.first.degree c.args.tables.now f f c.forward_coeffs.new.into.values
          c.tables.invariant.first_modulus_is c.tables.view_is (constant_agree first_modulus f) c.forward_coeffs.ensures.values;
      second_values = part_values t.second.modulus Second t.second.degree c.args.tables.now f f c.forward_coeffs-2.new.into.values
          c.tables.invariant.second_modulus_is (c.tables.invariant.one_degree ∙ c.tables.view_is) (constant_agree second_modulus f) c.forward_coeffs-2.ensures.values;
    }
