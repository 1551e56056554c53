-- Where the records of hits are asked for.
-- Batches by buckets: Angel, Chen, Laine and Setty, PIR with Compressed Queries and Amortized Query
-- Processing, 2018.
use Rattle.std.specs.Prelude.{◌≡◌, ℕ, ◌==◌, List, length, map, Option, Some, None, slice_index_or}
use Rattle.std.specs.List.{range_with_len, position}
use Rattle.std.specs.Option.{unwrap_or}
use Rattle.std.specs.Ordering.{nat_cmp}
use Rattle.co_text.specs.Order.{in_order}
use Rattle.co_text.specs.declared.ranks.Ranked.{Ranked}
use Rattle.co_noise.specs.Shapes.{Numbers}
use Rattle.co_bucket.specs.Lists.{bucket_count, candidates_of}
use Rattle.co_bucket.specs.Bytes.{record_row, record_start}
use Rattle.co_bucket.specs.Placement.{IsAssignment, IsWitness}
use Rattle.co_rounds.specs.Serving.{bucket_documents}

-- ---- hits in buckets

-- the candidate buckets of each hit, by rank
abbrev pub choices_of : Numbers → List Ranked → List (List ℕ)
choices_of s hits = map (λ h. candidates_of s.salt (bucket_count s.hits) h.document) hits

-- the hits can be put each into one of its buckets, no two into one
pub record CanBePlaced (s : Numbers) (hits : List Ranked) : Type 0 where
  pub choices : List ℕ
  pub assigns : IsAssignment (choices_of s hits) (length hits) choices

-- what is read past the end of a list of hits
abbrev pub no_hit : Ranked
no_hit = record { document = 0; score = 0 }

-- the document of a hit, by rank from 0
abbrev pub document_at : List Ranked → ℕ → ℕ
document_at hits rank = (slice_index_or hits rank no_hit).document

-- the hits can't be placed: the witness's documents, ascending, and their buckets
pub record IsUnplaced (s : Numbers) (hits : List Ranked) (documents buckets : List ℕ) : Type 0 where
  pub ranks : List ℕ
  pub witness : IsWitness (choices_of s hits) ranks buckets
  pub are : documents ≡ in_order nat_cmp (map (document_at hits) ranks)

-- ---- rows of buckets

-- the place of a document in the list of a bucket that lists it
abbrev pub place_in_bucket : Numbers → ℕ → ℕ → ℕ
place_in_bucket s bucket document =
    unwrap_or (position (λ d. d == document) (bucket_documents s bucket)) 0

-- the row of a document's record in a bucket, and where the record begins in the row
abbrev pub document_row : Numbers → ℕ → ℕ → ℕ
document_row s bucket document = record_row s.degree (place_in_bucket s bucket document)

abbrev pub document_start : Numbers → ℕ → ℕ → ℕ
document_start s bucket document = record_start s.degree (place_in_bucket s bucket document)

-- the row that is asked of a bucket: that of the hit that is placed there, else the first
abbrev pub row_asked : Numbers → List Ranked → Option ℕ → ℕ → ℕ
row_asked s hits None bucket = 0
row_asked s hits (Some rank) bucket = document_row s bucket (document_at hits rank)

-- the rows that are asked, bucket by bucket
abbrev pub rows_asked : Numbers → List Ranked → List (Option ℕ) → List ℕ
rows_asked s hits placed = map (λ b. row_asked s hits (slice_index_or placed b None) b)
    (range_with_len 0 (bucket_count s.hits))
