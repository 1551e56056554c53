-- What a client finds in a bucket and in a bin.
use Rattle.std.specs.Prelude.{◌≡◌, ℕ, ℤ, ◌+◌, ◌*◌, ◌/◌, ◌%◌, ◌<◌, ◌&&◌, ◌==◌, if◌then◌else◌, Bool, true, nat_lt, nat_le, List, length, map, take, drop, slice_index, Ok}
use Rattle.std.specs.List.{range_with_len}
use Rattle.co_math.specs.Parameters.{fresh_bound}
use Rattle.co_math.specs.Coefficients.{signed_coefficients}
use Rattle.co_ring.specs.Polynomials.{polynomial_of}
use Rattle.co_noise.specs.Shapes.{Numbers}
use Rattle.co_noise.specs.Bounds.{HasRoom}
use Rattle.co_bucket.specs.Bytes.{record_chunks}
use Rattle.co_bfv.specs.Secrets.{IsSecret}
use Rattle.co_bfv.specs.Ciphertexts.{Ciphertext, IsCiphertext, ciphertext_degree, MeansWithin}
use Rattle.co_switch.specs.Keys.{Keys, AreGoodKeys}
use Rattle.co_pir.specs.Messages.{query_polynomial}
use Rattle.co_pir.specs.Tables.{row_bytes}
use Rattle.co_corpus.specs.declared.documents.Document.{Document}
use Rattle.co_corpus.specs.Documents.{IsCorpus}
use Rattle.co_pack.specs.declared.packing.Place.{Place}
use Rattle.co_pack.specs.Records.{record_of}
use Rattle.co_wire.specs.Bodies.{AreKeysFor}
use Rattle.co_library.specs.declared.settings.Settings.{Settings}
use Rattle.co_library.specs.Libraries.{Parts, IsLibrary}
use Rattle.co_library.specs.Refusals.{IsBuilt}
use Rattle.co_rounds.specs.Serving.{bucket_table, bin_table}
use Rattle.co_rounds.specs.Placing.{document_row, document_start}
use Rattle.co_pack.specs.declared.records.TheConstants.{RECORD_BYTES}

-- ---- what a library shows

-- the library of a corpus and settings
pub record IsLibraryFor (documents : List Document) (settings : Settings) (l : Parts) : Type 0 where
  pub corpus : IsCorpus documents
  pub built : IsBuilt documents settings l

-- the place is inside the bins
abbrev pub is_within_bins : Numbers → Place → Bool
is_within_bins s p = nat_lt p.bin s.bins && nat_le (p.offset + p.length) (s.chunks * (2 * s.degree))

-- in the row of a bucket that is asked for a document stands its record, with its title and a place
-- in the bins; and in the bin of that place stands its text
pub record ShowsDocument (l : Parts) (bucket number : ℕ) (document : Document) : Type 0 where
  pub row : document_row l.shape bucket number < l.shape.rows
  pub place : Place
  pub read : record_of (take RECORD_BYTES (drop (document_start l.shape bucket number)
      (row_bytes (bucket_table l bucket) (document_row l.shape bucket number))))
      ≡ Ok (record { document = number; place = place; title = document.title })
  pub within : is_within_bins l.shape place ≡ true
  pub text : take place.length (drop place.offset (row_bytes (bin_table l) place.bin))
      ≡ document.text

-- ---- what a client opens

-- byte i of a payload: two bytes a coefficient, the higher first
abbrev pub byte_of : List ℕ → ℕ → ℕ
byte_of coeffs i =
    if i % 2 == 0 then slice_index coeffs (i / 2) / 256 else slice_index coeffs (i / 2) % 256

-- the bytes of a payload
abbrev pub bytes_of : List ℕ → List ℕ
bytes_of coeffs = map (byte_of coeffs) (range_with_len 0 (2 * length coeffs))

-- the ciphertexts of a bucket, among those of all buckets
abbrev pub bucket_replies : Numbers → List Ciphertext → ℕ → List Ciphertext
bucket_replies s replies bucket =
    take (record_chunks s.degree) (drop (bucket * record_chunks s.degree) replies)

-- a library that leaves room for its noise, a secret of its degree, and keys that are good for the
-- secret
pub record CanBeOpened (l : Parts) (secret : List ℤ) (keys : Keys) : Type 0 where
  pub library : IsLibrary l
  pub room : HasRoom l.shape
  pub is_secret : IsSecret secret
  pub degree : length secret ≡ l.shape.degree
  pub keys_for : AreKeysFor l.shape keys
  pub good : AreGoodKeys (signed_coefficients secret) keys

-- the query is fresh for a row of so many rows, under the secret
pub record AsksFor (n : ℕ) (secret : List ℤ) (query : Ciphertext) (rows row : ℕ) : Type 0 where
  pub cipher : IsCiphertext query
  pub degree : ciphertext_degree query ≡ n
  pub within : row < rows
  pub fresh : MeansWithin (signed_coefficients secret) query
      (polynomial_of (query_polynomial n rows row)) fresh_bound
