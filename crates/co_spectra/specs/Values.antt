-- Ciphertexts and plain polynomials by their values at the roots of -1.
use Rattle.std.specs.Prelude.{ℕ, ◌≡◌, List, length}
use Rattle.co_math.specs.Coefficients.{coefficients}
use Rattle.co_rns.specs.Residue_pairs.{centred_coefficients}
use Rattle.co_rns.specs.Spectra.{PairValues, IsSpectrumOf, spectrum_degree}
use Rattle.co_bfv.specs.Ciphertexts.{Ciphertext, ciphertext_degree}

-- the values of both parts
pub record CipherValues : Type 0 where
  pub c0 : PairValues
  pub c1 : PairValues

-- n values of each part
pub record AreOfDegree (n : ℕ) (v : CipherValues) : Type 0 where
  pub c0 : spectrum_degree v.c0 ≡ n
  pub c1 : spectrum_degree v.c1 ≡ n

-- the values of a ciphertext of degree n
pub record AreCipherValues (n : ℕ) (c : Ciphertext) (v : CipherValues) : Type 0 where
  pub degree : ciphertext_degree c ≡ n
  pub c0 : IsSpectrumOf n (coefficients c.c0) v.c0
  pub c1 : IsSpectrumOf n (coefficients c.c1) v.c1

-- the values of a polynomial modulo t of degree n, taken with its centred coefficients
pub record ArePlainValues (n : ℕ) (coeffs : List ℕ) (v : PairValues) : Type 0 where
  pub len : length coeffs ≡ n
  pub values : IsSpectrumOf n (centred_coefficients coeffs) v
