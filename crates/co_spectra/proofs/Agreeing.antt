-- Values of polynomials that agree modulo q at the first n places.
use Rattle.std.proofs.Common.{◌≡◌, ℕ, ◌+◌, ◌*◌, ◌<◌, sym, subst, ◌∙◌, arith, ℤ, pos, List, get_or}
use Rattle.co_math.specs.Parameters.{first_modulus, second_modulus, q}
use Rattle.co_math.specs.Powers.{power, root}
use Rattle.co_math.specs.Coefficients.{coefficients, AreResidues}
use Rattle.co_math.specs.Residues.{Congruent}
use Rattle.co_math.specs.Values.{value_at}
use Rattle.co_math.proofs.Orders.{coarser}
use Rattle.co_math.proofs.Residues.{cong_from, cong-trans, residue-same}
use Rattle.co_math.proofs.Reduced.{residue_of}
use Rattle.co_math.proofs.Terms.{coefficient-low}
use Rattle.co_math.proofs.Values.{value-congruent}
use Rattle.co_ring.specs.Product_sums.{AreSumsOf}
use Rattle.co_ring.specs.Spectra.{AreValues}
use Rattle.co_rns.specs.Spectra.{PairSums, PairValues, IsPairSumOf, IsSpectrumOf}

-- the first n coefficients are congruent modulo m
abbrev pub AgreeLow : ℕ → ℕ → (ℤ → ℤ) → (ℤ → ℤ) → Type 0
AgreeLow m n f g = (k : ℕ) → k < n → Congruent m (f (pos k)) (g (pos k))

values_low : (m n : ℕ) (f g : ℤ → ℤ) (xs : List ℕ) → 0 < m → AgreeLow m n f g → AreValues m n f xs → AreValues m n g xs
unfolding value_at
values_low m n f g xs z h v = record {
  len = v.len;
  each = λ k u.
      let x = power (pos (root m n)) (2 * k + 1) in
      v.each k u ∙ residue-same m (value_at n f x) (value_at n g x) z (value-congruent m n (λ j. f (pos j)) (λ j. g (pos j)) x h);
}

sums_low : (m n : ℕ) (f g : ℤ → ℤ) (xs : List ℕ) → AgreeLow m n f g → AreSumsOf m n f xs → AreSumsOf m n g xs
unfolding value_at
sums_low m n f g xs h s = record {
  len = s.len;
  each = λ k u.
      let x = power (pos (root m n)) (2 * k + 1) in
      cong-trans m (s.each k u) (value-congruent m n (λ j. f (pos j)) (λ j. g (pos j)) x h);
}

pub spectrum_low : (n : ℕ) (f g : ℤ → ℤ) (v : PairValues) → AgreeLow q n f g → IsSpectrumOf n f v → IsSpectrumOf n g v
spectrum_low n f g v h s = record {
  first_values = values_low first_modulus n f g v.first (omega arith) (λ k l. coarser first_modulus second_modulus (h k l)) s.first_values;
  second_values = values_low second_modulus n f g v.second (omega arith) (λ k l. coarser second_modulus first_modulus (h k l)) s.second_values;
}

pub pair_sum_low : (n : ℕ) (f g : ℤ → ℤ) (s : PairSums) → AgreeLow q n f g → IsPairSumOf n f s → IsPairSumOf n g s
pair_sum_low n f g s h v = record {
  first_sums = sums_low first_modulus n f g s.first (λ k l. coarser first_modulus second_modulus (h k l)) v.first_sums;
  second_sums = sums_low second_modulus n f g s.second (λ k l. coarser second_modulus first_modulus (h k l)) v.second_sums;
}

-- a list of residues agrees with what they are the residues of
pub residues_low : (n m : ℕ) (f : ℤ → ℤ) (xs : List ℕ) → m ≡ n → AreResidues q m f xs → AgreeLow q n (coefficients xs) f
residues_low n m f xs e h k l =
    let u : k < m = subst (λ (j : ℕ). k < j) (sym e) l in
    cong-trans q (cong_from q (coefficient-low xs k (subst (λ (j : ℕ). k < j) (sym h.len) u))) (residue_of q (get_or xs k 0) (f (pos k)) (omega arith) (h.each k u))
