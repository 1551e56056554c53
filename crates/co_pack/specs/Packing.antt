-- Where documents stand in bins: first fit decreasing (D. Johnson: Near-optimal bin packing
-- algorithms, 1973).
use Rattle.std.specs.Prelude.{◌≡◌, ◌+◌, ◌*◌, ◌<◌, ◌≤◌, ◌==◌, ◌⊎◌, ℕ, List, length, take, map, slice_index, slice_index_or, sum_by, if◌then◌else◌}
use Rattle.std.specs.List.{range_with_len}
use Rattle.std.specs.List.Sorted.{IsPermutation}
use Rattle.std.specs.Ordering.{nat_cmp, ordering_then}
use Rattle.std.specs.declared.cmp.Ordering.{Ordering}
use Rattle.std.specs.declared.cmp.Reverse.{Reverse}
use Rattle.co_pack.specs.declared.packing.Place.{Place}

-- what a bin holds of some documents
abbrev pub load : List Place → ℕ → ℕ
load places bin = sum_by (λ p. if p.bin == bin then p.length else 0) places

-- a document stands in the lowest bin that has room for it beside the earlier ones, behind them
pub record IsNext (size : ℕ) (earlier : List Place) (p : Place) : Type 0 where
  pub offset : p.offset ≡ load earlier p.bin
  pub fits : load earlier p.bin + p.length ≤ size
  pub lowest : (b : ℕ) → b < p.bin → size < load earlier b + p.length

-- what is read past the end of a list of places
abbrev pub no_place : Place
no_place = record { bin = 0; offset = 0; length = 0 }

-- the place of a document
abbrev pub place_at : List Place → ℕ → Place
place_at places i = slice_index_or places i no_place

-- each document in turn stands in the first bin that has room beside those before it
abbrev pub IsFirstFit : ℕ → List Place → Type 0
IsFirstFit size places =
    (s : ℕ) → s < length places → IsNext size (take s places) (place_at places s)

-- the document i is packed before j: it is longer, or as long and has the lower number
abbrev pub IsEarlier : List ℕ → ℕ → ℕ → Type 0
IsEarlier lengths i j = (slice_index lengths j < slice_index lengths i)
    ⊎ ((slice_index lengths i ≡ slice_index lengths j) × (i < j))

-- how many bins the places need, at least one
pub record IsBinCount (places : List Place) (bins : ℕ) : Type 0 where
  pub some : 1 ≤ bins
  pub within : (i : ℕ) → i < length places → (place_at places i).bin < bins
  pub last : (i : ℕ) × (i < length places) × ((place_at places i).bin + 1 ≡ bins)

-- the documents in the order of packing stand each in the first bin that fits
pub record IsPacked (lengths : List ℕ) (size : ℕ) (places : List Place) (bins : ℕ) : Type 0 where
  pub many : length places ≡ length lengths
  pub lengths_are : (i : ℕ) → i < length lengths → (place_at places i).length
      ≡ slice_index lengths i
  pub order : List ℕ
  pub permutes : IsPermutation (range_with_len 0 (length lengths)) order
  pub in_order : (s t : ℕ) → s < t → t < length order
      → IsEarlier lengths (slice_index order s) (slice_index order t)
  pub first_fit : IsFirstFit size (map (λ i. place_at places i) order)
  pub count : IsBinCount places bins

-- the order of packing, on lengths with their documents
abbrev pub key_cmp : Reverse ℕ × ℕ → Reverse ℕ × ℕ → Ordering
key_cmp x y = ordering_then (nat_cmp y.0.0 x.0.0) (nat_cmp x.1 y.1)

-- the least multiple of twice the degree that holds the longest text and some chunks
pub record IsBinSize (longest degree chunks size : ℕ) : Type 0 where
  pub pieces : ℕ
  pub multiple : size ≡ pieces * (2 * degree)
  pub holds : longest ≤ size
  pub chunked : chunks ≤ pieces
  pub least : (m : ℕ) → longest ≤ m * (2 * degree) → chunks ≤ m → pieces ≤ m
