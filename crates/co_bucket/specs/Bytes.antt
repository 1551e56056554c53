-- The bytes of a bucket, and where the record of a document stands in them.
use Rattle.std.specs.Prelude.{◌≡◌, ◌-◌, ◌*◌, ◌/◌, ◌%◌, ◌^◌, ◌≤◌, ℕ, List, ◌++◌, length, take, drop, max, replicate}
use Rattle.std.specs.List.{All, flat_map}
use Rattle.co_bucket.specs.Rows.{records_a_row}

-- the bytes of a row: two for each coefficient of a polynomial, and at least those of one record
abbrev pub row_size : ℕ → ℕ
row_size degree = max 256 (2 * degree)

-- how many payloads of one polynomial, 2 * degree bytes each, a row has
abbrev pub record_chunks : ℕ → ℕ
record_chunks degree = max 1 (128 / degree)

-- the bytes of a bucket: the records of its list in order, then zeros up to its rows; `spelled` are
-- the 256 bytes of a document's record
unfoldable pub bucket_bytes : ℕ → ℕ → (ℕ → List ℕ) → List ℕ → List ℕ
bucket_bytes degree rows spelled list =
    flat_map spelled list ++ replicate (rows * row_size degree - length (flat_map spelled list)) 0

-- a row of a bucket
abbrev pub row_of : ℕ → ℕ → List ℕ → List ℕ
row_of degree r bytes = take (row_size degree) (drop (r * row_size degree) bytes)

-- the row of the record at a position of the list, and its first byte there
abbrev pub record_row : ℕ → ℕ → ℕ
record_row degree position = position / records_a_row degree

abbrev pub record_start : ℕ → ℕ → ℕ
record_start degree position = 256 * (position % records_a_row degree)

-- records of 256 bytes, no more than the rows hold, at a degree that is a power of two from 16 to
-- 4096
pub record AreHeld (degree rows : ℕ) (spelled : ℕ → List ℕ) (list : List ℕ) : Type 0 where
  pub exponent : ℕ
  pub least : 4 ≤ exponent
  pub most : exponent ≤ 12
  pub is : degree ≡ 2 ^ exponent
  pub each : All (λ document. length (spelled document) ≡ 256) list
  pub few : length list ≤ rows * records_a_row degree
