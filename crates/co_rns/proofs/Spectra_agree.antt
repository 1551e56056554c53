-- Values of polynomials that agree modulo m, and of sums of products.
use Rattle.std.proofs.Common.{◌≡◌, ℕ, ◌+◌, ◌*◌, ◌<◌, suc, refl, subst, ◌∙◌, arith, ℤ, pos, List, [], ◌∷◌, length}
use Rattle.co_math.specs.Powers.{power, root}
use Rattle.co_math.specs.Values.{value_at}
use Rattle.co_math.specs.Polynomials.{IsWrapped, plus, product}
use Rattle.co_math.specs.Coefficients.{IsDegree}
use Rattle.co_math.specs.Parameters.{first_modulus, second_modulus}
use Rattle.co_math.proofs.Residues.{residue-same}
use Rattle.co_math.proofs.Values.{value-congruent}
use Rattle.co_math.proofs.Agreements.{Agree}
use Rattle.co_math.proofs.Degrees.{degree_positive}
use Rattle.co_ring.specs.declared.moduli.Modulus.{Modulus}
use Rattle.co_ring.specs.declared.moduli.Modulus.TheVariants.{First, Second}
use Rattle.co_ring.specs.Moduli.{value_of}
use Rattle.co_ring.proofs.Keeping.{value-positive}
use Rattle.co_ring.specs.Spectra.{AreValues}
use Rattle.co_ring.proofs.Rooted.{root_minus}
use Rattle.co_ring.proofs.Orderings.{added_values}
use Rattle.co_ring.proofs.Summing.{sums_none, sums_with, sums_reduced, with_product, with_product-is, first_of_all, last_of_all}
use Rattle.co_rns.specs.Spectra.{PairValues, PairSums, IsSpectrumOf, IsAddedProduct, IsNoPairSum, IsPairSumWith, IsPairSumWithAll, IsPairSumOf, IsReducedPair}

pub values_agree : (m n : ℕ) (f g : ℤ → ℤ) (xs : List ℕ) → 0 < m → Agree m f g → AreValues m n f xs → AreValues m n g xs
unfolding value_at
values_agree m n f g xs z h v = record {
  len = v.len;
  each = λ k u.
      let x = power (pos (root m n)) (2 * k + 1) in
      v.each k u ∙ residue-same m (value_at n f x) (value_at n g x) z (value-congruent m n (λ j. f (pos j)) (λ j. g (pos j)) x (λ i w. h (pos i)));
}

-- the same under equal moduli and degrees
pub part_values : (a b : Modulus) (k n : ℕ) (f g : ℤ → ℤ) (xs : List ℕ) → a ≡ b → k ≡ n → Agree (value_of b) f g → AreValues (value_of a) k f xs → AreValues (value_of b) n g xs
part_values a b k n f g xs e d h v =
    values_agree (value_of b) n f g xs (value-positive b) h (subst (λ (j : ℕ). AreValues (value_of b) j f xs) d (subst (λ (m : Modulus). AreValues (value_of m) k f xs) e v))

-- the values of a sum to which a product was added
pub added : (n : ℕ) (e f g : ℤ → ℤ) (old a b new : PairValues) → IsDegree n → IsWrapped n g → IsSpectrumOf n e old → IsSpectrumOf n f a → IsSpectrumOf n g b
    → IsAddedProduct old a b new → IsSpectrumOf n (plus e (product n f g)) new
added n e f g old a b new d w x y z s = record {
  first_values = added_values first_modulus n e f g old.first a.first b.first new.first (omega arith) (degree_positive n d) w (root_minus First n d) x.first_values y.first_values z.first_values s.first_sums;
  second_values = added_values second_modulus n e f g old.second a.second b.second new.second (omega arith) (degree_positive n d) w (root_minus Second n d) x.second_values y.second_values z.second_values s.second_sums;
}

-- the same of sums that are not reduced
pub gathered_none : (n : ℕ) (s : PairSums) → IsNoPairSum n s → IsPairSumOf n (λ _. pos 0) s
gathered_none n s h = record { first_sums = sums_none first_modulus n s.first h.first_zeros; second_sums = sums_none second_modulus n s.second h.second_zeros }

pub gathered_with : (n : ℕ) (e f g : ℤ → ℤ) (old new : PairSums) (a b : PairValues) → IsDegree n → IsWrapped n g → IsPairSumOf n e old → IsSpectrumOf n f a → IsSpectrumOf n g b
    → IsPairSumWith old a b new → IsPairSumOf n (plus e (product n f g)) new
gathered_with n e f g old new a b d w x y z s = record {
  first_sums = sums_with first_modulus n e f g old.first a.first b.first new.first (omega arith) (degree_positive n d) w (root_minus First n d) x.first_sums y.first_values z.first_values s.first_sums;
  second_sums = sums_with second_modulus n e f g old.second a.second b.second new.second (omega arith) (degree_positive n d) w (root_minus Second n d) x.second_sums y.second_values z.second_values s.second_sums;
}

pub gathered_reduced : (n : ℕ) (f : ℤ → ℤ) (s : PairSums) (values : PairValues) → IsPairSumOf n f s → IsReducedPair s values → IsSpectrumOf n f values
gathered_reduced n f s values h r = record {
  first_values = sums_reduced first_modulus n f s.first values.first (omega arith) h.first_sums r.first_values;
  second_values = sums_reduced second_modulus n f s.second values.second (omega arith) h.second_sums r.second_values;
}

-- one product more, as sums
abbrev pub with_pair : PairSums → PairValues → PairValues → PairSums
with_pair old a b = record { count = old.count + 1; first = with_product old.first a.first b.first; second = with_product old.second a.second b.second }

pub with_pair-is : (old : PairSums) (a b : PairValues) → IsPairSumWith old a b (with_pair old a b)
with_pair-is old a b = record { one_more = refl; first_sums = with_product-is old.first a.first b.first; second_sums = with_product-is old.second a.second b.second }

-- several products are the first of them, and then the rest
pub first_of_pairs : (old : PairSums) (a b : PairValues) (new : PairSums) (pairs : List (PairValues × PairValues)) → IsPairSumWithAll old ((a, b) ∷ pairs) new → IsPairSumWithAll (with_pair old a b) pairs new
first_of_pairs old a b new pairs h = record {
  more = h.more ∙ shift old.count (length pairs);
  first_sums = first_of_all old.first a.first b.first new.first _ h.first_sums;
  second_sums = first_of_all old.second a.second b.second new.second _ h.second_sums;
}
  where
    shift : (c n : ℕ) → c + suc n ≡ c + 1 + n
    shift c n = omega arith

pub last_of_pairs : (old : PairSums) (a b : PairValues) (new : PairSums) → IsPairSumWithAll old ((a, b) ∷ []) new → IsPairSumWith old a b new
last_of_pairs old a b new h = record { one_more = h.more; first_sums = last_of_all old.first a.first b.first new.first h.first_sums; second_sums = last_of_all old.second a.second b.second new.second h.second_sums }
