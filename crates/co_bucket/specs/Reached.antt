-- What a search from an item without a bucket has reached: items, each with an assignment of all
-- the others, and the buckets that the items but the first had at the start.
use Rattle.std.specs.Prelude.{◌≡◌, ◌≢◌, ◌+◌, ◌<◌, ◌≤◌, ◌⊎◌, ℕ, List, [], Option, length, slice_index, slice_index_or, MatchOption}
use Rattle.std.specs.List.{Contains}
use Rattle.co_bucket.specs.declared.TheConstants.{MOST_ITEMS}
use Rattle.co_bucket.specs.declared.finding.Reached.{Reached}
use Rattle.co_bucket.specs.Placement.{IsCandidate, IsAssignmentBut}

-- the state of a search from `hole`, where `choices` leave it alone without a bucket; near: in each
-- kept assignment an item has its bucket from the start, or one of those reached
pub record IsReached (cs : List (List ℕ)) (n hole : ℕ) (choices items buckets : List ℕ)
    (shifted : List (List ℕ)) : Type 0 where
  pub base : IsAssignmentBut cs n hole choices
  pub hole_in : hole < n
  pub one_fewer : length items ≡ length buckets + 1
  pub copies : length shifted ≡ length items
  pub first : slice_index items 0 ≡ hole
  pub item_in : (j : ℕ) → j < length buckets → slice_index items (j + 1) < n
  pub item_not : (j : ℕ) → j < length buckets → slice_index items (j + 1) ≢ hole
  pub owned : (j : ℕ) → j < length buckets → slice_index choices (slice_index items (j + 1))
      ≡ slice_index buckets j
  pub apart : (i j : ℕ) → i < j → j < length buckets → slice_index buckets i ≢ slice_index buckets j
  pub wide : (j : ℕ) → j < length items → length (slice_index_or shifted j []) ≡ MOST_ITEMS
  pub placed : (j : ℕ) → j < length items
      → IsAssignmentBut cs n (slice_index items j) (slice_index_or shifted j [])
  pub near : (j x : ℕ) → j < length items → x < n → x ≢ slice_index items j
      → ((x ≢ hole) × (slice_index (slice_index_or shifted j []) x ≡ slice_index choices x))
      ⊎ Contains buckets (slice_index (slice_index_or shifted j []) x)
  pub asked : (b : ℕ) → Contains buckets b → (j : ℕ) × (j < length items)
      × IsCandidate cs (slice_index items j) b

-- what was reached before stays
pub record IsKept (items buckets items' buckets' : List ℕ) : Type 0 where
  pub more : length items ≤ length items'
  pub same : (j : ℕ) → j < length items → slice_index items' j ≡ slice_index items j
  pub still : (b : ℕ) → Contains buckets b → Contains buckets' b

-- the same of what the code keeps
abbrev pub AreReached : List (List ℕ) → ℕ → ℕ → List ℕ → Reached → Type 0
AreReached cs n hole choices r =
    IsReached cs n hole choices r.items.items r.buckets.items r.shifted.items

abbrev pub AreKept : Reached → Reached → Type 0
AreKept before now =
    IsKept before.items.items before.buckets.items now.items.items now.buckets.items

-- what a step finds: a bucket for each of the items, or that the search goes on
abbrev pub IsStep : List (List ℕ) → ℕ → ℕ → List ℕ → Reached → Option (List ℕ) → Type 0
IsStep cs n hole choices now found =
    MatchOption found (AreReached cs n hole choices now) (λ bs. IsAssignmentBut cs n n bs)

-- a fact of each step that doesn't place all
abbrev pub IfUnplaced : Type 0 → Option (List ℕ) → Type 0
IfUnplaced Fact found = MatchOption found Fact (λ bs. Unit {0})

-- each candidate of the item at j is reached
abbrev pub IsClosed : List (List ℕ) → List ℕ → List ℕ → ℕ → Type 0
IsClosed cs items buckets j = (b : ℕ) → IsCandidate cs (slice_index items j) b → Contains buckets b

-- the search ended with no free bucket
pub record IsStuck (cs : List (List ℕ)) (n : ℕ) (items buckets : List ℕ) : Type 0 where
  pub one_fewer : length items ≡ length buckets + 1
  pub item_in : (j : ℕ) → j < length items → slice_index items j < n
  pub items_apart : (i j : ℕ) → i < j → j < length items → slice_index items i ≢ slice_index items j
  pub buckets_apart : (i j : ℕ) → i < j → j < length buckets
      → slice_index buckets i ≢ slice_index buckets j
  pub closed : (j : ℕ) → j < length items → IsClosed cs items buckets j
  pub asked : (b : ℕ) → Contains buckets b → (j : ℕ) × (j < length items)
      × IsCandidate cs (slice_index items j) b
  pub placed : (j : ℕ) → j < length items → (bs : List ℕ)
      × IsAssignmentBut cs n (slice_index items j) bs

-- the first `done` of the candidates `row` of the item at `at` are reached
pub record IsExploring (cs : List (List ℕ)) (n hole : ℕ)
    (choices items₀ buckets₀ items buckets : List ℕ) (shifted : List (List ℕ)) (at : ℕ)
    (row : List ℕ) (done : ℕ) : Type 0 where
  pub reached : IsReached cs n hole choices items buckets shifted
  pub kept : IsKept items₀ buckets₀ items buckets
  pub in_items : at < length items₀
  pub row_is : row ≡ slice_index_or cs (slice_index items₀ at) []
  pub done_in : (k : ℕ) → k < done → Contains buckets (slice_index row k)

-- the items before `at` are closed
pub record IsSearching (cs : List (List ℕ)) (n hole : ℕ) (choices items buckets : List ℕ)
    (shifted : List (List ℕ)) (at : ℕ) : Type 0 where
  pub reached : IsReached cs n hole choices items buckets shifted
  pub closed : (j : ℕ) → j < at → IsClosed cs items buckets j
