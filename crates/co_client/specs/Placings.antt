-- Where hits are placed, and which records are asked.
use Rattle.std.specs.Prelude.{◌≡◌, ◌<◌, ℕ, List, [], length, map, Option, Some, None, slice_index_or}
use Rattle.std.specs.List.{range_with_len}
use Rattle.co_noise.specs.Shapes.{Numbers}
use Rattle.co_text.specs.declared.ranks.Ranked.{Ranked}
use Rattle.co_bucket.specs.Lists.{bucket_count}
use Rattle.co_bucket.specs.Placement.{IsPlacement}
use Rattle.co_rounds.specs.Placing.{choices_of, document_at, place_in_bucket, IsUnplaced}
use Rattle.co_client.specs.Records.{bucket_of}

-- so many buckets, none of which has a hit
pub record AreFree (count : ℕ) (placed : List (Option ℕ)) : Type 0 where
  pub each_bucket : length placed ≡ count
  pub free : (bucket : ℕ) → slice_index_or placed bucket None ≡ None

-- the hits are placed by the least assignment; or no bucket has one, and a witness, documents and
-- buckets, tells that there is no assignment
abbrev pub ArePlaced : Numbers → List Ranked → List (Option ℕ) → Option (List ℕ × List ℕ) → Type 0
ArePlaced s hits placed None = IsPlacement (choices_of s hits) (bucket_count s.hits) placed
ArePlaced s hits placed (Some witness) =
    IsUnplaced s hits witness.0 witness.1 × AreFree (bucket_count s.hits) placed

-- the hits whose records are read: all where they are placed, else none
abbrev pub shown_of : Option (List ℕ × List ℕ) → List Ranked → List Ranked
shown_of None hits = hits
shown_of (Some witness) hits = []

-- each hit has its bucket
pub record HaveBuckets (s : Numbers) (hits : List Ranked) (placed : List (Option ℕ)) : Type 0 where
  pub within : (rank : ℕ) → rank < length hits → bucket_of placed rank < bucket_count s.hits
  pub there : (rank : ℕ) → rank < length hits →
      slice_index_or placed (bucket_of placed rank) None ≡ Some rank

-- the place in a bucket's list of the record that is asked: that of the hit that is placed there,
-- else the first
abbrev pub place_asked : Numbers → List Ranked → Option ℕ → ℕ → ℕ
place_asked s hits None bucket = 0
place_asked s hits (Some rank) bucket = place_in_bucket s bucket (document_at hits rank)

-- the same, bucket by bucket
abbrev pub places_asked : Numbers → List Ranked → List (Option ℕ) → List ℕ
places_asked s hits placed =
    map (λ b. place_asked s hits (slice_index_or placed b None) b)
    (range_with_len 0 (bucket_count s.hits))
