-- What a Pair is.
use Rattle.std.specs.Prelude.{ℕ, List, length, ◌≡◌}
use Rattle.co_ring.specs.declared.moduli.Modulus.TheVariants.{First, Second}
use Rattle.co_ring.specs.Polynomials.{Polynomial, IsPolynomial}
use Rattle.co_rns.specs.Residue_pairs.{q}
use Rattle.co_math.specs.Coefficients.{AreBelow, IsDegree}

-- a polynomial modulo q1 and one modulo q2, of one degree
pub record IsPair (first second : Polynomial) : Type 0 where
  pub first_modulus : first.modulus ≡ First
  pub second_modulus : second.modulus ≡ Second
  pub one_degree : length second.coeffs ≡ length first.coeffs
  pub first_polynomial : IsPolynomial First first.coeffs
  pub second_polynomial : IsPolynomial Second second.coeffs

-- the coefficients of a polynomial modulo q
pub record IsWhole (coeffs : List ℕ) : Type 0 where
  pub degree : IsDegree (length coeffs)
  pub below : AreBelow q coeffs

-- the coefficients of a polynomial modulo q, and room for a digit of each
pub record IsDecomposition (coeffs digits : List ℕ) : Type 0 where
  pub whole : IsWhole coeffs
  pub one_degree : length digits ≡ length coeffs
