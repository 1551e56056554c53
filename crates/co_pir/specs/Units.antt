-- An answer in units of work: unit chunk * pieces + piece is one chunk with 64 rows, the last piece
-- of a chunk with fewer.
use Rattle.std.specs.Prelude.{ℕ, ◌≡◌, ◌<◌, ◌+◌, ◌-◌, ◌*◌, ◌/◌, ◌%◌, ◌==◌, if◌then◌else◌, min, List, length, slice_set, All}
use Rattle.std.specs.Int.{div_ceil}
use Rattle.co_bfv.specs.Ciphertexts.{Ciphertext, ciphertext_sum, plain_product}
use Rattle.co_bfv.specs.Totals.{IsOfDegree, ciphertext_at, ciphertext_total}
use Rattle.co_crew.specs.Sums.{units_total}
use Rattle.co_spectra.specs.Values.{CipherValues}
use Rattle.co_pir.specs.Kept.{AreRowValues}
use Rattle.co_pir.specs.Tables.{Table, payload_at}

-- how many units a chunk has
abbrev pub pieces : Table → ℕ
pieces t = div_ceil t.rows 64

-- how many units an answer has
abbrev pub unit_count : Table → ℕ
unit_count t = t.chunks * pieces t

-- how many rows a piece has
abbrev pub rows_of : Table → ℕ → ℕ
rows_of t piece = min 64 (t.rows - piece * 64)

-- the sum over the first so many rows of a piece, of a chunk
unfoldable pub piece_sum : Table → List Ciphertext → ℕ → ℕ → ℕ → Ciphertext
piece_sum t cs chunk piece count = ciphertext_total t.degree count (λ j.
    plain_product (ciphertext_at cs (piece * 64 + j)) (payload_at t (piece * 64 + j) chunk))

-- what a unit adds to the reply of a chunk: the rows of its piece, where it is of that chunk, and
-- else none
unfoldable pub unit_sum : Table → List Ciphertext → ℕ → ℕ → Ciphertext
unit_sum t cs chunk unit = piece_sum t cs chunk (unit % pieces t) (if unit / pieces t == chunk
    then rows_of t (unit % pieces t) else 0)

-- a worker's sums: for each chunk the sum of what these units add
pub record AreUnitSums (t : Table) (cs : List Ciphertext) (units : List ℕ)
    (replies : List Ciphertext) : Type 0 where
  pub count : length replies ≡ t.chunks
  pub whole : All (IsOfDegree t.degree) replies
  pub each : (chunk : ℕ) → chunk < length replies → ciphertext_at replies chunk
      ≡ units_total t.degree (unit_sum t cs chunk) units

-- a table, and the values of the ciphertexts of its rows
pub record Answered : Type 0 where
  pub table : Table
  pub values : List CipherValues

-- a worker's sums, for each expansion with these values
pub record AreHeldSums (t : Table) (values : List CipherValues) (units : List ℕ)
    (replies : List Ciphertext) : Type 0 where
  pub count : length replies ≡ t.chunks
  pub whole : All (IsOfDegree t.degree) replies
  pub each : (cs : List Ciphertext) → AreRowValues t.degree t.rows cs values
      → AreUnitSums t cs units replies

-- a unit was added to the sum of its chunk
pub record AddsUnit (t : Table) (cs : List Ciphertext) (unit : ℕ) (before after : List Ciphertext)
    : Type 0 where
  pub chunk_in : unit / pieces t < length before
  pub is : after ≡ slice_set before (unit / pieces t)
      (ciphertext_sum (ciphertext_at before (unit / pieces t))
      (piece_sum t cs (unit / pieces t) (unit % pieces t) (rows_of t (unit % pieces t))))
