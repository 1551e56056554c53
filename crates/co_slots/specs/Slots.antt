-- Slots: values of a polynomial modulo t at powers of its root (N. Smart, F. Vercauteren: Fully
-- homomorphic SIMD operations, 2014).
use Rattle.std.specs.Prelude.{ℕ, ℤ, pos, neg_ℤ, ◌-◌, ◌*◌, ◌/◌, ◌<◌, ◌≡◌, ◌^◌, List, length, slice_index, nat_lt, if◌then◌else◌}
use Rattle.co_math.specs.Residues.{residue}
use Rattle.co_math.specs.Powers.{power, root}
use Rattle.co_math.specs.Values.{value_at}
use Rattle.co_math.specs.Coefficients.{coefficients}
use Rattle.co_math.specs.Exponents.{bit_reversal}
use Rattle.co_math.specs.Parameters.{plain_modulus}
use Rattle.co_ring.specs.declared.moduli.Modulus.TheVariants.{Plain}
use Rattle.co_ring.specs.Tables.{Shape}

-- the exponent of slot p: 3^p in the first row, -3^(p - n/2) in the second
unfoldable pub exponent_of : ℕ → ℕ → ℕ
exponent_of n p = if nat_lt p (n / 2) then residue (2 * n) (power (pos 3) p)
    else residue (2 * n) (neg_ℤ (power (pos 3) (p - n / 2)))

-- slot p of a polynomial modulo X^n + 1, which is (0, p) or (1, p - n/2): its value at the power of
-- the root that belongs to p
abbrev pub slot_of : ℕ → (ℤ → ℤ) → ℕ → ℕ
slot_of n f p =
    residue plain_modulus (value_at n f (power (pos (root plain_modulus n)) (exponent_of n p)))

-- slot p of the polynomial with these coefficients
unfoldable pub slot : List ℕ → ℕ → ℕ
slot xs p = slot_of (length xs) (coefficients xs) p

-- the slots of a polynomial, the first row before the second
pub record AreSlots (coeffs slots : List ℕ) : Type 0 where
  pub len : length slots ≡ length coeffs
  pub each : (p : ℕ) → p < length coeffs → slice_index slots p ≡ slot coeffs p

-- the places of the first slots among the leaves of the transform, which has value k at k's bits in
-- the opposite order
pub record ArePlaces (n count : ℕ) (xs : List ℕ) : Type 0 where
  pub len : length xs ≡ count
  pub each : (l p : ℕ) → n ≡ 2 ^ l → p < count
      → slice_index xs p ≡ bit_reversal l (exponent_of n p / 2)

-- a table modulo t, and the places of all its slots
pub record IsSlotTable (table : Shape) (places : List ℕ) : Type 0 where
  pub plain : table.modulus ≡ Plain
  pub slots : ArePlaces table.degree table.degree places

-- the first count slots are among the values, slot p at half of its odd exponent
pub record AreScattered (n count : ℕ) (slots values : List ℕ) : Type 0 where
  pub len : length values ≡ n
  pub each : (p : ℕ) → p < count → slice_index values (exponent_of n p / 2) ≡ slice_index slots p
