-- Lists of residues as polynomials.
use Rattle.std.specs.Prelude.{ℕ, ℤ, pos, ◌*ℤ◌, List, length, map, slice_index, slice_index_or, ◌<◌, ◌≡◌}
use Rattle.std.specs.List.{range_with_len}
use Rattle.co_math.specs.Residues.{residue, Congruent}
pub use Rattle.co_math.specs.Degrees.{IsDegree}
use Rattle.co_math.specs.Polynomials.{spread}

-- the polynomial with a list of coefficients
unfoldable pub coefficients : List ℕ → ℤ → ℤ
coefficients xs = spread (length xs) (λ i. pos (slice_index xs i))

-- the polynomial with a list of coefficients of either sign
unfoldable pub signed_coefficients : List ℤ → ℤ → ℤ
signed_coefficients xs = spread (length xs) (λ i. slice_index_or xs i (pos 0))

-- each of xs is below m
abbrev pub AreBelow : ℕ → List ℕ → Type 0
AreBelow m xs = (i : ℕ) → i < length xs → slice_index xs i < m

-- xs are the residues modulo m of f 0 .. f (n - 1)
pub record AreResidues (m n : ℕ) (f : ℤ → ℤ) (xs : List ℕ) : Type 0 where
  pub len : length xs ≡ n
  pub each : (k : ℕ) → k < n → slice_index xs k ≡ residue m (f (pos k))

-- the list of the residues modulo m of f 0 .. f (n - 1)
unfoldable pub residues_of : ℕ → ℕ → (ℤ → ℤ) → List ℕ
residues_of m n f = map (λ k. residue m (f (pos k))) (range_with_len 0 n)

-- ys is xs with X^g for X, modulo m: coefficient g * k of ys is coefficient k of xs
pub record IsSubstituted (m g : ℕ) (xs ys : List ℕ) : Type 0 where
  pub len : length ys ≡ length xs
  pub below : AreBelow m ys
  pub at : (k : ℕ) → k < length xs → Congruent m (coefficients ys (pos g *ℤ pos k))
      (coefficients xs (pos k))
