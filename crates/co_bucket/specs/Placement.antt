-- Which assignments there are, which is the least, and what tells that there is none: systems of
-- distinct representatives (P. Hall: On representatives of subsets, 1935).
use Rattle.std.specs.Prelude.{◌≡◌, ◌≢◌, ◌+◌, ◌<◌, ◌≤◌, ◌↔◌, ℕ, List, [], length, slice_index, slice_index_or, Option, Some, None}
use Rattle.std.specs.List.{Contains}
use Rattle.std.specs.List.Sorted.{IsStrictlyIncreasing}

-- b is a candidate of the item i
abbrev pub IsCandidate : List (List ℕ) → ℕ → ℕ → Type 0
IsCandidate cs i b = Contains (slice_index_or cs i []) b

-- bs gives each item below n one of its candidates, and no two of them the same
pub record IsAssignment (cs : List (List ℕ)) (n : ℕ) (bs : List ℕ) : Type 0 where
  pub candidate : (i : ℕ) → i < n → IsCandidate cs i (slice_index bs i)
  pub apart : (i j : ℕ) → i < j → j < n → slice_index bs i ≢ slice_index bs j

-- the same for the items below n without the item `out`
pub record IsAssignmentBut (cs : List (List ℕ)) (n out : ℕ) (bs : List ℕ) : Type 0 where
  pub candidate : (i : ℕ) → i < n → i ≢ out → IsCandidate cs i (slice_index bs i)
  pub apart : (i j : ℕ) → i < j → j < n → i ≢ out → j ≢ out → slice_index bs i ≢ slice_index bs j

-- xs stands before ys in the lexicographic order of their first n buckets
abbrev pub IsBefore : ℕ → List ℕ → List ℕ → Type 0
IsBefore n xs ys = (i : ℕ) × (i < n) × ((j : ℕ) → j < i → slice_index xs j ≡ slice_index ys j)
    × (slice_index xs i < slice_index ys i)

-- an assignment, and none stands before it
pub record IsLeast (cs : List (List ℕ)) (bs : List ℕ) : Type 0 where
  pub assigns : IsAssignment cs (length cs) bs
  pub least : (other : List ℕ) → IsAssignment cs (length cs) other
      → IsBefore (length cs) other bs → ⊥

-- bucket by bucket, which of n items bs puts there
pub record IsInverse (n : ℕ) (bs : List ℕ) (placed : List (Option ℕ)) : Type 0 where
  pub each : (i : ℕ) → i < n → slice_index_or placed (slice_index bs i) None ≡ Some i
  pub only : (b i : ℕ) → slice_index_or placed b None ≡ Some i → (i < n) × (slice_index bs i ≡ b)

-- bucket by bucket, the items of the least assignment
pub record IsPlacement (cs : List (List ℕ)) (buckets : ℕ) (placed : List (Option ℕ)) : Type 0 where
  pub each_bucket : length placed ≡ buckets
  pub choices : List ℕ
  pub is_least : IsLeast cs choices
  pub places : IsInverse (length cs) choices placed

-- why there is no assignment: the shortest prefix without one, its items without any one of which
-- it has one, and their candidates
pub record IsWitness (cs : List (List ℕ)) (items buckets : List ℕ) : Type 0 where
  pub prefix : ℕ
  pub within : prefix ≤ length cs
  pub none : (bs : List ℕ) → IsAssignment cs prefix bs → ⊥
  pub shortest : (m : ℕ) → m < prefix → (bs : List ℕ) × IsAssignment cs m bs
  pub members : (i : ℕ) → Contains items i
      ↔ ((i < prefix) × ((bs : List ℕ) × IsAssignmentBut cs prefix i bs))
  pub candidates : (b : ℕ) → Contains buckets b ↔ ((i : ℕ) × Contains items i × IsCandidate cs i b)
  pub items_ascend : IsStrictlyIncreasing items
  pub buckets_ascend : IsStrictlyIncreasing buckets
  pub one_fewer : length items ≡ length buckets + 1
