-- When placement is refused.
use Rattle.std.specs.Prelude.{ℕ, List}
use Rattle.co_bucket.specs.Placement.{IsWitness}
use Rattle.co_bucket.specs.declared.placing.PlaceFault.{PlaceFault}
use Rattle.co_bucket.specs.declared.placing.PlaceFault.TheVariants.{NoPlacement, OutOfMemory}

-- without a placement there is a witness; memory may be wanting at any time
abbrev pub Refuses : List (List ℕ) → PlaceFault → Type 0
Refuses cs (NoPlacement items buckets) = IsWitness cs items buckets
Refuses cs OutOfMemory = Unit {0}
