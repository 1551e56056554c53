-- The buckets in which a document may stand, and the documents that a bucket lists.
use Rattle.std.specs.Prelude.{◌*◌, ◌%◌, ◌==◌, ℕ, Bool, List, [], ◌∷◌, ◌++◌, take, drop, max, map}
use Rattle.std.specs.List.{filter, list_any, range_with_len}
use Rattle.std.specs.Int.{w32, w64, to_be_bytes, from_be_bytes, div_ceil}
use Rattle.sha2.specs.Sha256.{sha256}

-- how many buckets serve a number of hits: half as many again, rounded up, and at least three
abbrev pub bucket_count : ℕ → ℕ
bucket_count hits = max 3 (div_ceil (3 * hits) 2)

-- SHA-256 (FIPS 180-4) of the salt and the document's number, four bytes each, the highest first
unfoldable pub digest : ℕ → ℕ → List ℕ
digest salt document = sha256 (to_be_bytes w32 salt ++ to_be_bytes w32 document)

-- the number that the eight bytes at a place of a hash spell, the highest first
abbrev pub word : List ℕ → ℕ → ℕ
word hash at = from_be_bytes w64 (take 8 (drop at hash))

-- the three candidates of a document: the words at 0, 8 and 16 of its hash, modulo the number of
-- buckets
unfoldable pub candidates_of : ℕ → ℕ → ℕ → List ℕ
candidates_of salt buckets document =
    map (λ at. word (digest salt document) at % buckets) (0 ∷ 8 ∷ 16 ∷ [])

-- whether a bucket is one of some
abbrev pub is_in : List ℕ → ℕ → Bool
is_in row bucket = list_any (λ b. b == bucket) row

-- whether a bucket is a candidate of a document
abbrev pub may_stand : ℕ → ℕ → ℕ → ℕ → Bool
may_stand salt buckets bucket document = is_in (candidates_of salt buckets document) bucket

-- the documents below a number that have the bucket as a candidate, ascending, each once
abbrev pub listed : ℕ → ℕ → ℕ → ℕ → List ℕ
listed salt buckets documents bucket =
    filter (may_stand salt buckets bucket) (range_with_len 0 documents)

-- the lists of all buckets
abbrev pub lists_of : ℕ → ℕ → ℕ → List (List ℕ)
lists_of salt buckets documents = map (listed salt buckets documents) (range_with_len 0 buckets)
