-- Sums over units of work.
use Rattle.std.specs.Prelude.{ℕ, ℤ, pos, ◌≡◌, ◌<◌, ◌+ℤ◌, List, [], ◌∷◌, length}
use Rattle.co_math.specs.Parameters.{q}
use Rattle.co_math.specs.Coefficients.{coefficients, residues_of}
use Rattle.co_bfv.specs.Ciphertexts.{Ciphertext, ciphertext_sum}
use Rattle.co_bfv.specs.Totals.{ciphertext_at}

-- f of each of these units, added up
abbrev pub total_over : (ℕ → ℤ) → List ℕ → ℤ
total_over f [] = pos 0
total_over f (u ∷ us) = f u +ℤ total_over f us

-- the ciphertext f of each of these units, added up, of degree n, by parts modulo q
unfoldable pub units_total : ℕ → (ℕ → Ciphertext) → List ℕ → Ciphertext
units_total n f us = record {
  c0 = residues_of q n (λ x. total_over (λ u. coefficients (f u).c0 x) us);
  c1 = residues_of q n (λ x. total_over (λ u. coefficients (f u).c1 x) us);
}

-- to each ciphertext of a list that of another list was added
pub record AreAdded (before others after : List Ciphertext) : Type 0 where
  pub count : length after ≡ length before
  pub each : (a : ℕ) → a < length before → ciphertext_at after a
      ≡ ciphertext_sum (ciphertext_at before a) (ciphertext_at others a)
