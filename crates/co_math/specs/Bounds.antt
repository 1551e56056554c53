-- Bounds on noise that follow from the parameters alone.
use Rattle.std.specs.Prelude.{ℕ, ◌-◌, ◌*◌}
use Rattle.co_math.specs.Parameters.{plain_modulus, digit_base, digit_count, error_bound}
pub use Rattle.co_math.specs.Parameters.{plain_half, fresh_bound}

-- KS, the noise that a key switch adds: t times the sum over the digits of a digit polynomial times
-- an error
unfoldable pub switch_bound : ℕ → ℕ
switch_bound degree = plain_modulus * digit_count * degree * (digit_base - 1) * error_bound
