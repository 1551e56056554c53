-- Payloads: two bytes a coefficient.
use Rattle.std.specs.Prelude.{ℕ, ◌+◌, ◌*◌, ◌<◌, ◌≢◌, ◌≡◌, List, length, slice_index}
use Rattle.co_math.specs.Coefficients.{AreBelow}

-- coefficient k is 256 * byte 2k + byte 2k + 1
pub record IsPayload (bytes coeffs : List ℕ) : Type 0 where
  pub len : length bytes ≡ 2 * length coeffs
  pub below : AreBelow 256 bytes
  pub each : (k : ℕ) → k < length coeffs → slice_index coeffs k
      ≡ 256 * slice_index bytes (2 * k) + slice_index bytes (2 * k + 1)

-- the first coefficient that is no pair of bytes
pub record IsFirstNoByte (coeffs : List ℕ) (place : ℕ) : Type 0 where
  pub within : place < length coeffs
  pub here : slice_index coeffs place ≡ 65536
  pub before : (k : ℕ) → k < place → slice_index coeffs k ≢ 65536
