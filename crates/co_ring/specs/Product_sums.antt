-- Sums of products of spectra that are not reduced.
use Rattle.std.specs.Prelude.{ℕ, ℤ, pos, List, length, slice_index, ◌≡◌, ◌<◌, ◌≤◌, ◌+◌, ◌*◌, ◌%◌, ◌^◌}
use Rattle.co_math.specs.Parameters.{least_exponent, most_exponent}
use Rattle.co_math.specs.Residues.{Congruent}
use Rattle.co_math.specs.Powers.{power, root}
use Rattle.co_math.specs.Values.{value_at}
use Rattle.co_transform.specs.Trees.{AreWithin}
use Rattle.co_transform.specs.Gathered.{products_at}
use Rattle.co_ring.specs.declared.moduli.Modulus.{Modulus}
use Rattle.co_ring.specs.declared.sums.TheConstants.{MOST_PRODUCTS}
use Rattle.co_ring.specs.Moduli.{value_of}

-- how many products one sum takes
abbrev pub most_products : ℕ
most_products = MOST_PRODUCTS

-- a sum of count products: value k is that at psi ^ (2k + 1), a number that may pass the modulus
pub record Sums : Type 0 where
  pub modulus : Modulus
  pub count : ℕ
  pub values : List ℕ

-- the leaves of a sum of products of numbers below the modulus
pub record AreSumLeaves (modulus : Modulus) (levels count : ℕ) (leaves : List ℕ) : Type 0 where
  pub least : least_exponent ≤ levels
  pub most : levels ≤ most_exponent
  pub len : length leaves ≡ 2 ^ levels
  pub few : count ≤ most_products
  pub within : AreWithin (count * (value_of modulus * value_of modulus)) leaves

-- n zeros
pub record AreZeros (n : ℕ) (sums : List ℕ) : Type 0 where
  pub len : length sums ≡ n
  pub each : (k : ℕ) → k < n → slice_index sums k ≡ 0

-- value by value, a * b was added, and nothing was reduced
pub record AreSumsWith (old a b new : List ℕ) : Type 0 where
  pub len : length new ≡ length old
  pub each : (k : ℕ) → k < length old → slice_index new k
      ≡ slice_index old k + slice_index a k * slice_index b k

-- value by value, the products of pairs of lists were added, and nothing was reduced
pub record AreSumsWithAll (old : List ℕ) (pairs : List (List ℕ × List ℕ)) (new : List ℕ)
    : Type 0 where
  pub len : length new ≡ length old
  pub each : (k : ℕ) → k < length old → slice_index new k ≡ slice_index old k + products_at pairs k

-- value by value, the sums modulo m
pub record AreReduced (m : ℕ) (sums values : List ℕ) : Type 0 where
  pub len : length values ≡ length sums
  pub each : (k : ℕ) → k < length sums → slice_index values k ≡ slice_index sums k % m

-- the sum of no products
pub record IsNoSum (modulus : Modulus) (n : ℕ) (s : Sums) : Type 0 where
  pub one_modulus : s.modulus ≡ modulus
  pub none : s.count ≡ 0
  pub zeros : AreZeros n s.values

-- one product more
pub record IsSumWith (old : Sums) (a b : List ℕ) (new : Sums) : Type 0 where
  pub one_modulus : new.modulus ≡ old.modulus
  pub one_more : new.count ≡ old.count + 1
  pub sums : AreSumsWith old.values a b new.values

-- a product more for each pair
pub record IsSumWithAll (old : Sums) (pairs : List (List ℕ × List ℕ)) (new : Sums) : Type 0 where
  pub one_modulus : new.modulus ≡ old.modulus
  pub more : new.count ≡ old.count + length pairs
  pub sums : AreSumsWithAll old.values pairs new.values

-- modulo m, the sums are the values of the polynomial f at psi ^ (2k + 1)
pub record AreSumsOf (m n : ℕ) (f : ℤ → ℤ) (sums : List ℕ) : Type 0 where
  pub len : length sums ≡ n
  pub each : (k : ℕ) → k < n → Congruent m (pos (slice_index sums k))
      (value_at n f (power (pos (root m n)) (2 * k + 1)))
