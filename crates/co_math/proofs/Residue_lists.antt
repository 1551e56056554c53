-- The list of the residues of a polynomial, and polynomials of lists of either sign.
use Rattle.std.proofs.Common.{◌≡◌, ℕ, ◌<◌, ◌≤◌, sym, subst, arith, ℤ, pos, List, length, get_or}
use Rattle.std.specs.Int.RustNames.{unsigned_abs}
use Rattle.std.proofs.lemmas.List.FromFn.{length-map-range_with_len, get_or-map-range_with_len, fill_by_all}
use Rattle.co_math.specs.Residues.{residue, Congruent}
use Rattle.co_math.specs.Polynomials.{IsWrapped}
use Rattle.co_math.specs.Coefficients.{coefficients, signed_coefficients, AreBelow, AreResidues, residues_of}
use Rattle.co_math.proofs.Residues.{cong-trans, cong_from}
use Rattle.co_math.proofs.Reduced.{residue_of}
use Rattle.co_math.proofs.Terms.{coefficient-low}
use Rattle.co_math.proofs.Spreads.{spread-low, spread-IsWrapped}
use Rattle.co_math.proofs.Switched.{wrapped_bound}
use Rattle.co_math.proofs.Agreements.{Agree, residues_agree, residues_for}
use Rattle.co_math.proofs.Done.{residues_below}

pub residues_of-are : (m n : ℕ) (f : ℤ → ℤ) → AreResidues m n f (residues_of m n f)
unfolding residues_of
residues_of-are m n f = record {
  len = length-map-range_with_len (λ k. residue m (f (pos k))) 0 n;
  each = λ k l. get_or-map-range_with_len (λ i. residue m (f (pos i))) 0 n k k 0 l (omega arith);
}

-- residues are unique
pub residues_of-is : (m n : ℕ) (f : ℤ → ℤ) (xs : List ℕ) → AreResidues m n f xs → xs ≡ residues_of m n f
unfolding residues_of
residues_of-is m n f xs h = fill_by_all (λ k. residue m (f (pos k))) xs n 0 h.len h.each

pub length-residues_of : (m n : ℕ) (f : ℤ → ℤ) → length (residues_of m n f) ≡ n
length-residues_of m n f = let h = residues_of-are m n f in h.len

-- the residues of a polynomial agree with it everywhere
pub residues_of-agree : (m n : ℕ) (f : ℤ → ℤ) → 0 < m → 0 < n → IsWrapped n f → Agree m (coefficients (residues_of m n f)) f
residues_of-agree m n f p z w = residues_agree m n f (residues_of m n f) p z w (residues_of-are m n f)

pub residues_of-below : (m n : ℕ) (f : ℤ → ℤ) → 0 < m → AreBelow m (residues_of m n f)
residues_of-below m n f p = residues_below m n f (residues_of m n f) p (residues_of-are m n f)

-- polynomials that agree modulo m have the same residues
pub residues_of-same : (m n : ℕ) (f g : ℤ → ℤ) → 0 < m → ((k : ℕ) → k < n → Congruent m (f (pos k)) (g (pos k))) → residues_of m n f ≡ residues_of m n g
residues_of-same m n f g p h = residues_of-is m n g (residues_of m n f) (residues_for m n f g (residues_of m n f) p h (residues_of-are m n f))

-- a list of residues is congruent to its polynomial
pub residues_of-at : (m n : ℕ) (f : ℤ → ℤ) (xs : List ℕ) (k : ℕ) → 0 < m → xs ≡ residues_of m n f → k < n → Congruent m (coefficients xs (pos k)) (f (pos k))
residues_of-at m n f xs k p e l =
    let h = subst (AreResidues m n f) (sym e) (residues_of-are m n f) in
    cong-trans m (cong_from m (coefficient-low xs k (omega (arith, h.len)))) (residue_of m (get_or xs k 0) (f (pos k)) p (h.each k l))

-- ---- lists of either sign

pub signed-low : (xs : List ℤ) (k : ℕ) → k < length xs → signed_coefficients xs (pos k) ≡ get_or xs k (pos 0)
unfolding signed_coefficients
signed-low xs k l = spread-low (length xs) (λ i. get_or xs i (pos 0)) k l

pub signed-IsWrapped : (xs : List ℤ) → 0 < length xs → IsWrapped (length xs) (signed_coefficients xs)
unfolding signed_coefficients
signed-IsWrapped xs z = spread-IsWrapped (length xs) (λ i. get_or xs i (pos 0)) z

pub signed-small : (xs : List ℤ) (b : ℕ) → 0 < length xs → ((i : ℕ) → i < length xs → unsigned_abs (get_or xs i (pos 0)) ≤ b) → (k : ℤ) → unsigned_abs (signed_coefficients xs k) ≤ b
signed-small xs b z h = wrapped_bound (length xs) (signed_coefficients xs) b z (signed-IsWrapped xs z) (λ i l. subst (λ (y : ℤ). unsigned_abs y ≤ b) (sym (signed-low xs i l)) (h i l))
