-- What a secret is: a polynomial with coefficients -1, 0 and 1.
use Rattle.std.specs.Prelude.{ℕ, ℤ, pos, ◌≡◌, ◌<◌, ◌≤◌, List, length, slice_index_or, unsigned_abs}
use Rattle.co_math.specs.Polynomials.{IsWrapped}
use Rattle.co_math.specs.Coefficients.{IsDegree, signed_coefficients}
use Rattle.co_rns.specs.Spectra.{PairValues, IsSpectrumOf}

-- a power of two of coefficients, each -1, 0 or 1
pub record IsSecret (coeffs : List ℤ) : Type 0 where
  pub degree : IsDegree (length coeffs)
  pub small : (i : ℕ) → i < length coeffs → unsigned_abs (slice_index_or coeffs i (pos 0)) ≤ 1

-- s is a polynomial modulo X^n + 1 with coefficients -1, 0 and 1
pub record IsTernary (n : ℕ) (s : ℤ → ℤ) : Type 0 where
  pub wrapped : IsWrapped n s
  pub small : (k : ℤ) → unsigned_abs (s k) ≤ 1

-- what is kept with a secret: tables of its degree, and its values
pub record IsKept (coeffs : List ℤ) (tables : ℕ) (values : PairValues) : Type 0 where
  pub secret : IsSecret coeffs
  pub tables_degree : tables ≡ length coeffs
  pub values_are : IsSpectrumOf (length coeffs) (signed_coefficients coeffs) values
