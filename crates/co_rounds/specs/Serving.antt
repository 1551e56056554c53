-- What a server holds for a library, and what it computes under a client's keys.
-- Batches by buckets: Angel, Chen, Laine and Setty, PIR with Compressed Queries and Amortized Query
-- Processing, 2018.
use Rattle.std.specs.Prelude.{ℕ, List}
use Rattle.std.specs.List.{flat_map, range_with_len}
use Rattle.co_noise.specs.Shapes.{Numbers}
use Rattle.co_bucket.specs.Lists.{bucket_count, listed}
use Rattle.co_bucket.specs.Bytes.{record_chunks, bucket_bytes}
use Rattle.co_bfv.specs.Ciphertexts.{Ciphertext}
use Rattle.co_bfv.specs.Totals.{ciphertext_at}
use Rattle.co_switch.specs.Keys.{Keys}
use Rattle.co_matvec.specs.Weights.{WeightMatrix}
use Rattle.co_pir.specs.Tables.{Table, piece}
use Rattle.co_pir.specs.Replies.{retrieved}
use Rattle.co_library.specs.Libraries.{Parts}
use Rattle.co_pack.specs.declared.records.TheConstants.{RECORD_BYTES}

-- the weights, for scores
abbrev pub weights_of : Parts → WeightMatrix
weights_of l = record {
  degree = l.shape.degree;
  documents = l.shape.documents;
  terms = l.shape.terms;
  entries = l.weights;
}

-- the bytes of a document's record
abbrev pub record_at : List ℕ → ℕ → List ℕ
record_at records document = piece RECORD_BYTES document records

-- the documents that a bucket lists
abbrev pub bucket_documents : Numbers → ℕ → List ℕ
bucket_documents s bucket = listed s.salt (bucket_count s.hits) s.documents bucket

-- a bucket, for retrieval of a row of records: those of its documents, one after another
abbrev pub bucket_table : Parts → ℕ → Table
bucket_table l bucket = record {
  degree = l.shape.degree;
  rows = l.shape.rows;
  chunks = record_chunks l.shape.degree;
  bytes = bucket_bytes l.shape.degree l.shape.rows (record_at l.records)
      (bucket_documents l.shape bucket);
}

-- the bins, for retrieval of one
abbrev pub bin_table : Parts → Table
bin_table l =
    record { degree = l.shape.degree; rows = l.shape.bins; chunks = l.shape.chunks; bytes = l.bins }

-- the replies of all buckets, each to the query for it, bucket by bucket
unfoldable pub gathered : Parts → Keys → List Ciphertext → List Ciphertext
gathered l keys queries =
    flat_map (λ b. retrieved (bucket_table l b) keys (ciphertext_at queries b))
    (range_with_len 0 (bucket_count l.shape.hits))
