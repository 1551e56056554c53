-- What is made at the buckets of a document, one document after the other.
use Rattle.std.specs.Prelude.{◌≡◌, ◌<◌, ◌≤◌, ◌^◌, ℕ, List, [], length, map, slice_index, slice_index_or, if◌then◌else◌}
use Rattle.std.specs.declared.vec.Vec.{Vec}
use Rattle.std.specs.declared.alloc.Global.{Global}
use Rattle.co_bucket.specs.Lists.{is_in, listed}

-- what some vectors hold
abbrev pub contents : List (Vec ℕ Global) → List (List ℕ)
contents vs = map (λ v. v.items) vs

-- lists with lengths below 2 ^ 32
abbrev pub AreShort : List (List ℕ) → Type 0
AreShort lists = (k : ℕ) → k < length lists → length (slice_index_or lists k []) < 2 ^ 32

-- one step was made at each bucket of `row`, at a bucket that stands there twice also one; `none`
-- is what is read past the end
pub record IsStepped {X : Type 0} (none : X) (step : X → X) (before : List X) (row : List ℕ)
    (now : List X) : Type 0 where
  pub many : length now ≡ length before
  pub each : (k : ℕ) → k < length before → slice_index_or now k none
      ≡ (if is_in row k then step (slice_index_or before k none) else slice_index_or before k none)

-- the first documents are counted at their buckets
pub record IsCounted (salt buckets documents : ℕ) (counts : List ℕ) : Type 0 where
  pub within : buckets ≤ length counts
  pub each : (k : ℕ) → k < buckets → slice_index counts k ≡ length (listed salt buckets documents k)
