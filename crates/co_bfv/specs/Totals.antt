-- Lists of ciphertexts, and sums over them.
use Rattle.std.specs.Prelude.{ℕ, ◌≡◌, List, [], slice_index_or}
use Rattle.co_math.specs.Parameters.{q}
use Rattle.co_math.specs.Sums.{total}
use Rattle.co_math.specs.Coefficients.{coefficients, residues_of}
use Rattle.co_bfv.specs.Ciphertexts.{Ciphertext, IsCiphertext, ciphertext_degree}

-- stands where a list of ciphertexts has none
abbrev pub no_ciphertext : Ciphertext
no_ciphertext = record { c0 = []; c1 = [] }

-- the ciphertext at a place of a list
abbrev pub ciphertext_at : List Ciphertext → ℕ → Ciphertext
ciphertext_at cs k = slice_index_or cs k no_ciphertext

-- a ciphertext of degree n
pub record IsOfDegree (n : ℕ) (c : Ciphertext) : Type 0 where
  pub cipher : IsCiphertext c
  pub degree : ciphertext_degree c ≡ n

-- f 0 + .. + f (count - 1), of degree n, by parts modulo q
unfoldable pub ciphertext_total : ℕ → ℕ → (ℕ → Ciphertext) → Ciphertext
ciphertext_total n count f = record {
  c0 = residues_of q n (λ k. total count (λ r. coefficients (f r).c0 k));
  c1 = residues_of q n (λ k. total count (λ r. coefficients (f r).c1 k));
}
