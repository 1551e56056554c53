-- Centred coefficients.
use Rattle.std.proofs.Common.{◌≡◌, ℕ, ◌+◌, ◌-◌, ◌<◌, ◌≤◌, sym, ap, ◌∙◌, arith, ℤ, pos, ◌-ℤ◌, List, length, get_or, cond, leb}
use Rattle.std.proofs.lemmas.Bool.Decides.{nat_tests}
use Rattle.co_math.specs.Residues.{residue}
use Rattle.co_math.specs.Meanings.{centred}
use Rattle.co_math.specs.Coefficients.{AreResidues, coefficients}
use Rattle.co_math.proofs.Integers.{linear}
use Rattle.co_math.proofs.Residues.{residue_small, cong-refl}
use Rattle.co_math.proofs.Reduced.{reduced_as}
use Rattle.co_math.proofs.Spreads.{spread-low, spread-IsWrapped}
use Rattle.co_math.specs.Polynomials.{IsWrapped}
use Rattle.co_math.proofs.Agreements.{Agree, residues_agree}
use Rattle.co_rns.specs.Residue_pairs.{centred_coefficients}
use Rattle.co_rns.proofs.Parting.{AreNumbers}
use Rattle.co_math.specs.Parameters.{plain_modulus}

half : ℕ → ℤ
half r = cond (leb (r + r) plain_modulus) (pos r) (pos r -ℤ pos plain_modulus)

half-low : (r : ℕ) → r ≤ 32768 → half r ≡ pos r
unfolding half
half-low r l = grind (arith, nat_tests)

half-high : (r : ℕ) → 32768 < r → half r ≡ pos r -ℤ pos plain_modulus
unfolding half
half-high r l = grind (arith, nat_tests)

centred_half : (v : ℕ) → v < plain_modulus → centred plain_modulus (pos v) ≡ half v
unfolding centred half
centred_half v l = ap half (residue_small plain_modulus v l)

pub centred_kept : (m v : ℕ) → v ≤ 32768 → (plain_modulus - 1) < m → v ≡ residue m (centred plain_modulus (pos v))
centred_kept m v l u = reduced_as m v (pos v) (omega arith) (cong-refl m (pos v)) ∙ sym (ap (residue m) (centred_half v (omega arith) ∙ half-low v l))

pub centred_under : (m v : ℕ) → v < plain_modulus → 32768 < v → (plain_modulus - 1) < m → v + (m - plain_modulus) ≡ residue m (centred plain_modulus (pos v))
centred_under m v b l u =
    reduced_as m (v + (m - plain_modulus)) (pos v -ℤ pos plain_modulus) (omega arith) (record { times = pos 1; same = omega (arith, linear) }) ∙ sym (ap (residue m) (centred_half v b ∙ half-high v l))

pub centred_numbers : (m r n k : ℕ) (xs ys : List ℕ) → r ≡ m → AreNumbers (λ j. residue r (centred plain_modulus (pos (get_or xs j 0)))) k ys → k ≡ n → length xs ≡ n → AreResidues m n (centred_coefficients xs) ys
unfolding centred_coefficients
centred_numbers m r n k xs ys w h e l = record {
  len = h.len ∙ e;
  each = λ j u. h.each j (omega (arith, u, e))
      ∙ (λ i. residue (w i) (sym (spread-low (length xs) (λ a. centred plain_modulus (pos (get_or xs a 0))) j (omega (arith, u, l))) i));
}

pub centred_IsWrapped : (xs : List ℕ) → 0 < length xs → IsWrapped (length xs) (centred_coefficients xs)
unfolding centred_coefficients
centred_IsWrapped xs z = spread-IsWrapped (length xs) (λ i. centred plain_modulus (pos (get_or xs i 0))) z

-- a polynomial with these residues agrees with the centred one
pub centred_agree : (m : ℕ) (xs ys : List ℕ) → 0 < m → 0 < length xs → AreResidues m (length xs) (centred_coefficients xs) ys → Agree m (coefficients ys) (centred_coefficients xs)
centred_agree m xs ys p z h = residues_agree m (length xs) (centred_coefficients xs) ys p z (centred_IsWrapped xs z) h
