-- The values of polynomials modulo q at the roots of -1, by both residues.
use Rattle.std.specs.Prelude.{ℕ, ℤ, List, [], ◌∷◌, length, ◌≡◌, ◌+◌}
use Rattle.co_math.specs.Parameters.{first_modulus, second_modulus}
use Rattle.co_ring.specs.declared.moduli.Modulus.TheVariants.{First, Second}
use Rattle.co_ring.specs.Spectra.{Values, AreValues, AreAddedProducts}
use Rattle.co_ring.specs.Product_sums.{Sums, AreReduced, AreSumsOf, AreSumsWith, AreSumsWithAll, AreZeros}
use Rattle.co_ring.specs.Tables.{Shape}

-- value k of a list is the one at psi ^ (2k + 1), where psi is the root of the list's modulus
pub record PairValues : Type 0 where
  pub first : List ℕ
  pub second : List ℕ

-- n, where X^n is -1
abbrev pub spectrum_degree : PairValues → ℕ
spectrum_degree s = length s.first

-- values modulo q1, and as many modulo q2
pub record IsPairSpectrum (first second : Values) : Type 0 where
  pub first_modulus_is : first.modulus ≡ First
  pub second_modulus_is : second.modulus ≡ Second
  pub one_degree : length second.values ≡ length first.values

-- tables modulo q1 and q2, of one degree
pub record AreTables (first second : Shape) : Type 0 where
  pub first_modulus_is : first.modulus ≡ First
  pub second_modulus_is : second.modulus ≡ Second
  pub one_degree : second.degree ≡ first.degree

-- s has the values of the polynomial f modulo X^n + 1
pub record IsSpectrumOf (n : ℕ) (f : ℤ → ℤ) (s : PairValues) : Type 0 where
  pub first_values : AreValues first_modulus n f s.first
  pub second_values : AreValues second_modulus n f s.second

-- value by value, a * b was added
pub record IsAddedProduct (old a b new : PairValues) : Type 0 where
  pub first_sums : AreAddedProducts first_modulus old.first a.first b.first new.first
  pub second_sums : AreAddedProducts second_modulus old.second a.second b.second new.second

-- a sum of count products: the sums modulo q1 and those modulo q2, not reduced
pub record PairSums : Type 0 where
  pub count : ℕ
  pub first : List ℕ
  pub second : List ℕ

-- sums modulo q1, and as many modulo q2, of as many products
pub record IsPairSum (first second : Sums) : Type 0 where
  pub first_modulus_is : first.modulus ≡ First
  pub second_modulus_is : second.modulus ≡ Second
  pub one_degree : length second.values ≡ length first.values
  pub one_count : second.count ≡ first.count

-- the sum of no products
pub record IsNoPairSum (n : ℕ) (s : PairSums) : Type 0 where
  pub none : s.count ≡ 0
  pub first_zeros : AreZeros n s.first
  pub second_zeros : AreZeros n s.second

-- one product more
pub record IsPairSumWith (old : PairSums) (a b : PairValues) (new : PairSums) : Type 0 where
  pub one_more : new.count ≡ old.count + 1
  pub first_sums : AreSumsWith old.first a.first b.first new.first
  pub second_sums : AreSumsWith old.second a.second b.second new.second

-- the values modulo q1 of pairs of spectra, and those modulo q2
abbrev pub first_pairs : List (PairValues × PairValues) → List (List ℕ × List ℕ)
first_pairs [] = []
first_pairs (p ∷ ps) = (p.0.first, p.1.first) ∷ first_pairs ps

abbrev pub second_pairs : List (PairValues × PairValues) → List (List ℕ × List ℕ)
second_pairs [] = []
second_pairs (p ∷ ps) = (p.0.second, p.1.second) ∷ second_pairs ps

-- a product more for each pair
pub record IsPairSumWithAll (old : PairSums) (pairs : List (PairValues × PairValues))
    (new : PairSums) : Type 0 where
  pub more : new.count ≡ old.count + length pairs
  pub first_sums : AreSumsWithAll old.first (first_pairs pairs) new.first
  pub second_sums : AreSumsWithAll old.second (second_pairs pairs) new.second

-- the sums modulo q1 and q2
pub record IsReducedPair (s : PairSums) (values : PairValues) : Type 0 where
  pub first_values : AreReduced first_modulus s.first values.first
  pub second_values : AreReduced second_modulus s.second values.second

-- modulo q1 and q2, the sums are the values of the polynomial f
pub record IsPairSumOf (n : ℕ) (f : ℤ → ℤ) (s : PairSums) : Type 0 where
  pub first_sums : AreSumsOf first_modulus n f s.first
  pub second_sums : AreSumsOf second_modulus n f s.second
