use Rattle.std.proofs.Common.{ℕ, ℤ, ◌≡◌, List, length, pos, subst}
use Rattle.co_math.specs.Parameters.{q}
use Rattle.co_math.specs.Polynomials.{product}
use Rattle.co_math.specs.Coefficients.{coefficients, residues_of, signed_coefficients}
use Rattle.co_rns.specs.Spectra.{IsSpectrumOf}
use Rattle.co_bfv.proofs.Kept.{kept_product}
use Rattle.co_bfv.proofs.secrets.Secret.mul.Goals as goal

pub returns-clause-value : goal.returns-clause-value
returns-clause-value c =
    let zero = subst (λ (n : ℕ). IsSpectrumOf n (λ _. pos 0) c.in_ok-values.values) c.degree-degree.ensures c.in_ok-values.ensures in
    subst (λ (s : List ℤ). c.from_spectrum.new.into ≡ residues_of q (length s) (product (length s) (coefficients c.args.other.now) (signed_coefficients s))) c.self.view_is
    (kept_product _ _ _ c.args.other.now c.from_spectrum.new.into c.in_ok-values.values c.to_spectrum.new.into c.mul_add.new.self c.self.invariant c.to_spectrum.ensures zero c.mul_add.ensures c.from_spectrum.ensures.back)
