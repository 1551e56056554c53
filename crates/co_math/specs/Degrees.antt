-- How many coefficients a polynomial may have.
use Rattle.std.specs.Prelude.{ℕ, Bool, ◌≤◌, ◌≡◌, ◌^◌, ◌||◌, ◌==◌}
use Rattle.co_math.specs.Parameters.{least_exponent, most_exponent}

-- a power of two in 16..4096
pub record IsDegree (n : ℕ) : Type 0 where
  pub exponent : ℕ
  pub least : least_exponent ≤ exponent
  pub most : exponent ≤ most_exponent
  pub is : n ≡ 2 ^ exponent

-- the same as a test
abbrev pub is_degree : ℕ → Bool
is_degree n = n == 16 || n == 32 || n == 64 || n == 128 || n == 256 || n == 512 || n == 1024
    || n == 2048 || n == 4096
