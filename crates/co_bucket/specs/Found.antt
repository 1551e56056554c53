-- What a search ends with: all are placed, or why they can't be.
use Rattle.std.specs.Prelude.{ℕ, List}
use Rattle.co_bucket.specs.Placement.{IsAssignmentBut}
use Rattle.co_bucket.specs.Reached.{IsStuck}
use Rattle.co_bucket.specs.declared.finding.Found.{Found}
use Rattle.co_bucket.specs.declared.finding.Found.TheVariants.{Placed, Blocked}

-- choices for all items below n, or the items and buckets of a search that is stuck
abbrev pub IsFound : List (List ℕ) → ℕ → Found → Type 0
IsFound cs n (Placed bs) = IsAssignmentBut cs n n bs
IsFound cs n (Blocked items buckets) = IsStuck cs n items.items buckets.items
