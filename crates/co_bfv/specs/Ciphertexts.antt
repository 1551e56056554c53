-- Ciphertexts and what they mean.
-- The scheme: Fan and Vercauteren, Somewhat Practical Fully Homomorphic Encryption, 2012.
use Rattle.std.specs.Prelude.{ℕ, ℤ, pos, ◌≡◌, ◌+◌, List, length}
use Rattle.co_math.specs.Polynomials.{plus, minus, product}
use Rattle.co_math.specs.Coefficients.{coefficients, residues_of}
use Rattle.co_math.specs.Meanings.{Means}
use Rattle.co_math.specs.Parameters.{q, plain_modulus}
use Rattle.co_rns.specs.Residue_pairs.{centred_coefficients}
use Rattle.co_rns.specs.Pairs.{IsWhole}

-- c0 and c1, by their coefficients in 0..q-1
pub record Ciphertext : Type 0 where
  pub c0 : List ℕ
  pub c1 : List ℕ

-- two polynomials modulo q of one degree
pub record IsCiphertext (c : Ciphertext) : Type 0 where
  pub c0 : IsWhole c.c0
  pub c1 : IsWhole c.c1
  pub one_degree : length c.c1 ≡ length c.c0

abbrev pub ciphertext_degree : Ciphertext → ℕ
ciphertext_degree c = length c.c0

-- Under the secret s the ciphertext c means the polynomial m modulo t, with noise of size at most
-- b. The noise is t * (c0 + c1 * s) - q * m, centred modulo t * q: q times what later literature on
-- the scheme calls the invariant noise.
abbrev pub MeansWithin : (ℤ → ℤ) → Ciphertext → (ℤ → ℤ) → ℕ → Type 0
MeansWithin s c m b =
    Means plain_modulus q (ciphertext_degree c) s (coefficients c.c0) (coefficients c.c1) m b

-- the ciphertext of zeros, of degree n
unfoldable pub zero_ciphertext : ℕ → Ciphertext
zero_ciphertext n = record { c0 = residues_of q n (λ k. pos 0); c1 = residues_of q n (λ k. pos 0) }

-- the sum, by parts modulo q
unfoldable pub ciphertext_sum : Ciphertext → Ciphertext → Ciphertext
ciphertext_sum c d = record {
  c0 = residues_of q (ciphertext_degree c) (plus (coefficients c.c0) (coefficients d.c0));
  c1 = residues_of q (ciphertext_degree c) (plus (coefficients c.c1) (coefficients d.c1));
}

-- the difference, by parts modulo q
unfoldable pub ciphertext_difference : Ciphertext → Ciphertext → Ciphertext
ciphertext_difference c d = record {
  c0 = residues_of q (ciphertext_degree c) (minus (coefficients c.c0) (coefficients d.c0));
  c1 = residues_of q (ciphertext_degree c) (minus (coefficients c.c1) (coefficients d.c1));
}

-- e is `made` of c and d, which are added by parts in this way: so are their messages, and the
-- bounds of the noise add up
pub record IsCombined (add : (ℤ → ℤ) → (ℤ → ℤ) → ℤ → ℤ) (made c d e : Ciphertext) : Type 0 where
  pub value : e ≡ made
  pub meaning : (s m₁ m₂ : ℤ → ℤ) (b₁ b₂ : ℕ) → MeansWithin s c m₁ b₁ → MeansWithin s d m₂ b₂
      → MeansWithin s e (add m₁ m₂) (b₁ + b₂)
  pub degree : ciphertext_degree e ≡ ciphertext_degree c

-- both parts times a polynomial modulo t, taken with centred coefficients
unfoldable pub plain_product : Ciphertext → List ℕ → Ciphertext
plain_product c plain = record {
  c0 = residues_of q (ciphertext_degree c) (product (ciphertext_degree c) (coefficients c.c0)
      (centred_coefficients plain));
  c1 = residues_of q (ciphertext_degree c) (product (ciphertext_degree c) (coefficients c.c1)
      (centred_coefficients plain));
}
