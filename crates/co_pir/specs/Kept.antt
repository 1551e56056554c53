-- What is made once of a table, and of the expansion of a query.
use Rattle.std.specs.Prelude.{ℕ, ◌≡◌, ◌<◌, ◌*◌, ◌/◌, ◌%◌, List, length, slice_index_or}
use Rattle.co_rns.specs.Spectra.{PairValues}
use Rattle.co_bfv.specs.Ciphertexts.{Ciphertext}
use Rattle.co_bfv.specs.Totals.{ciphertext_at}
use Rattle.co_spectra.specs.Values.{CipherValues, AreCipherValues, ArePlainValues}
use Rattle.co_pir.specs.Tables.{Table, payload_at}

-- the values of the payload polynomial of a chunk of a row
abbrev pub IsPayloadOf : Table → ℕ → ℕ → PairValues → Type 0
IsPayloadOf t row chunk = ArePlainValues t.degree (payload_at t row chunk)

-- the values of the first count payload polynomials, chunk by chunk, and row by row in a chunk
pub record ArePayloadValues (t : Table) (count : ℕ) (values : List PairValues) : Type 0 where
  pub len : length values ≡ count
  pub each : (place : ℕ) (d : PairValues) → place < count
      → IsPayloadOf t (place % t.rows) (place / t.rows) (slice_index_or values place d)

-- what is kept with a table of at most 2^21 chunks: tables of its degree, and the values of its
-- payload polynomials
pub record IsKept (t : Table) (tables : ℕ) (values : List PairValues) : Type 0 where
  pub tables_degree : tables ≡ t.degree
  pub payloads : ArePayloadValues t (t.chunks * t.rows) values

-- the values of the ciphertexts of the first count rows
pub record AreRowValues (n count : ℕ) (cs : List Ciphertext) (values : List CipherValues)
    : Type 0 where
  pub len : length values ≡ count
  pub each : (row : ℕ) (d : CipherValues) → row < count
      → AreCipherValues n (ciphertext_at cs row) (slice_index_or values row d)
