-- How many rows of records hold the lists of the buckets.
use Rattle.std.specs.Prelude.{◌*◌, ◌/◌, ◌≤◌, ℕ, List, length, max, map}
use Rattle.std.specs.List.{All, fold}
use Rattle.std.specs.Int.{div_ceil}
use Rattle.co_bucket.specs.Lists.{bucket_count, lists_of}

-- how many records of 256 bytes a row holds: a polynomial of the degree has two bytes a
-- coefficient, and a row has one record at least
abbrev pub records_a_row : ℕ → ℕ
records_a_row degree = max 1 (degree / 128)

-- the length of the longest list, 0 where there is none
abbrev pub longest : List (List ℕ) → ℕ
longest lists = fold max 0 (map length lists)

-- the rows of each bucket: as many as the longest list fills, rounded up, and at least one
unfoldable pub row_count : List (List ℕ) → ℕ → ℕ
row_count lists degree = max 1 (div_ceil (longest lists) (records_a_row degree))

-- the rows of a shape, from its degree, documents, hits and salt
unfoldable pub rows_of : ℕ → ℕ → ℕ → ℕ → ℕ
rows_of degree documents hits salt = row_count (lists_of salt (bucket_count hits) documents) degree

-- so many records, at so many a row, fit into the rows
abbrev pub HoldsEach : List (List ℕ) → ℕ → ℕ → Type 0
HoldsEach lists per rows = All (λ list. length list ≤ rows * per) lists

-- the fewest rows, at least one, that hold each list
pub record IsRowCount (lists : List (List ℕ)) (per rows : ℕ) : Type 0 where
  pub some : 1 ≤ rows
  pub holds : HoldsEach lists per rows
  pub least : (fewer : ℕ) → 1 ≤ fewer → HoldsEach lists per fewer → rows ≤ fewer
