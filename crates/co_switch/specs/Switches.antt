-- A substitution with a key switch.
-- Digits and key switching: Brakerski, Gentry and Vaikuntanathan, (Leveled) Fully Homomorphic
-- Encryption without Bootstrapping, 2012.
use Rattle.std.specs.Prelude.{ℕ, ℤ, ◌/◌, ◌%◌, ◌^◌, List, map, length}
use Rattle.co_math.specs.Parameters.{q, digit_base, digit_count}
use Rattle.co_math.specs.Sums.{total}
use Rattle.co_math.specs.Polynomials.{plus, product, substitution}
use Rattle.co_math.specs.Coefficients.{coefficients, residues_of}
use Rattle.co_bfv.specs.Ciphertexts.{Ciphertext, ciphertext_degree}
use Rattle.co_switch.specs.Keys.{Key, part}

-- the polynomial of the digits at a place, in base W
unfoldable pub digit_polynomial : ℕ → List ℕ → List ℕ
digit_polynomial j xs = map (λ x. x / digit_base ^ j % digit_base) xs

-- the sum over the digits of xs of d_j * k_j
unfoldable pub digit_sum : List ℕ → List (List ℕ) → ℤ → ℤ
digit_sum xs ks k =
    total digit_count (λ j. product (length xs) (coefficients (digit_polynomial j xs))
    (coefficients (part ks j)) k)

-- the Galois automorphism X to X^g of a polynomial modulo q
unfoldable pub automorphism : ℕ → List ℕ → List ℕ
automorphism g xs = residues_of q (length xs) (substitution (length xs) g (coefficients xs))

-- (c0(X^g) + sum of d_j * k0_j, sum of d_j * k1_j) modulo q, with d_j the digit polynomials of
-- c1(X^g)
unfoldable pub switched : Key → Ciphertext → Ciphertext
switched key c = record {
  c0 = residues_of q (ciphertext_degree c)
      (plus (substitution (ciphertext_degree c) key.element (coefficients c.c0))
      (digit_sum (automorphism key.element c.c1) key.k0));
  c1 = residues_of q (ciphertext_degree c) (digit_sum (automorphism key.element c.c1) key.k1);
}
