-- Sums of products of ciphertexts and plain polynomials, by their values.
use Rattle.std.specs.Prelude.{ℕ, List, ◌≡◌, ◌≤◌, length}
use Rattle.co_math.specs.Coefficients.{IsDegree, coefficients}
use Rattle.co_ring.specs.Product_sums.{most_products}
use Rattle.co_rns.specs.Spectra.{PairSums, IsPairSumOf}
use Rattle.co_bfv.specs.Ciphertexts.{Ciphertext, ciphertext_sum, plain_product}
use Rattle.co_bfv.specs.Totals.{IsOfDegree}

-- sums of n values for both parts, that are not reduced
pub record CipherSums : Type 0 where
  pub degree : ℕ
  pub c0 : PairSums
  pub c1 : PairSums

-- modulo q1 and q2, the sums are the values of the ciphertext
pub record IsCipherSumOf (c : Ciphertext) (s : CipherSums) : Type 0 where
  pub cipher : IsOfDegree s.degree c
  pub c0 : IsPairSumOf s.degree (coefficients c.c0) s.c0
  pub c1 : IsPairSumOf s.degree (coefficients c.c1) s.c1

-- sums of as many products for both parts
pub record AreKept (s : CipherSums) (count : ℕ) : Type 0 where
  pub degree : IsDegree s.degree
  pub c0_length : length s.c0.first ≡ s.degree
  pub c1_length : length s.c1.first ≡ s.degree
  pub c0_count : s.c0.count ≡ count
  pub c1_count : s.c1.count ≡ count
  pub few : count ≤ most_products

-- three products of ciphertexts and plain polynomials added to a ciphertext, one after another
abbrev pub three_added : Ciphertext → Ciphertext → Ciphertext → Ciphertext
    → List ℕ → List ℕ → List ℕ → Ciphertext
three_added c a₁ a₂ a₃ p₁ p₂ p₃ =
    ciphertext_sum (ciphertext_sum (ciphertext_sum c (plain_product a₁ p₁)) (plain_product a₂ p₂))
    (plain_product a₃ p₃)
