-- Numbers modulo q by their residues modulo q1 and q2.
use Rattle.std.specs.Prelude.{ℕ, ℤ, pos, ◌+◌, ◌*◌, ◌/◌, ◌%◌, ◌^◌, ◌-ℤ◌, ◌*ℤ◌, ◌≡◌, ◌<◌, List, [], ◌∷◌, length, slice_index}
use Rattle.co_math.specs.Residues.{residue}
use Rattle.co_math.specs.Polynomials.{spread}
use Rattle.co_math.specs.Meanings.{centred}
use Rattle.co_math.specs.Parameters.{first_modulus, second_modulus, inverse_of_first, plain_modulus}
pub use Rattle.co_math.specs.Parameters.{q}

-- the number below q with the residues a and b
unfoldable pub composed : ℕ → ℕ → ℕ
composed a b = a + first_modulus * residue second_modulus ((pos b -ℤ pos a) *ℤ pos inverse_of_first)

abbrev pub all_composed : List ℕ → List ℕ → List ℕ
all_composed [] ys = []
all_composed (x ∷ xs) [] = []
all_composed (x ∷ xs) (y ∷ ys) = composed x y ∷ all_composed xs ys

-- xs are the residues of cs modulo m
pub record AreResiduesOf (m : ℕ) (cs xs : List ℕ) : Type 0 where
  pub len : length xs ≡ length cs
  pub each : (k : ℕ) → k < length cs → slice_index xs k ≡ slice_index cs k % m

-- ds are the digits of cs at a place, in a base
pub record AreDigits (base place : ℕ) (cs ds : List ℕ) : Type 0 where
  pub len : length ds ≡ length cs
  pub each : (k : ℕ) → k < length cs → slice_index ds k ≡ slice_index cs k / base ^ place % base

-- the polynomial with the centred coefficients of one modulo t
unfoldable pub centred_coefficients : List ℕ → ℤ → ℤ
centred_coefficients xs = spread (length xs) (λ i. centred plain_modulus (pos (slice_index xs i)))
