-- Numbers by their digits.
use Rattle.std.specs.Prelude.{ℕ, pos, ◌*◌, ◌/◌, ◌%◌, ◌^◌, ◌<◌, ◌≡◌, List, map, length, slice_index}
use Rattle.std.specs.List.{range_with_len}
use Rattle.co_math.specs.Sums.{total}
use Rattle.co_math.specs.Parameters.{digit_base, digit_count}

-- the digit at place j in base W
abbrev pub digit : ℕ → ℕ → ℕ
digit j x = x / digit_base ^ j % digit_base

-- the six digits, the lowest first
unfoldable pub digits_of : ℕ → List ℕ
digits_of x = map (λ j. digit j x) (range_with_len 0 digit_count)

-- six numbers below W; x is their sum, each times W to its place
pub record AreDigitsOf (x : ℕ) (ds : List ℕ) : Type 0 where
  pub len : length ds ≡ digit_count
  pub below : (j : ℕ) → j < digit_count → slice_index ds j < digit_base
  pub sum : pos x ≡ total digit_count (λ j. pos (slice_index ds j * digit_base ^ j))
