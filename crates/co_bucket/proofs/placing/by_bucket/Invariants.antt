-- What the loop of `by_bucket` keeps.
use Rattle.std.proofs.Common.{◌≡◌, length}
use Rattle.co_bucket.specs.Placement.{IsInverse}
use Rattle.co_bucket.proofs.placing.by_bucket.Given as goal

abbrev pub invariant-loop-item : goal.invariant-loop-item
invariant-loop-item l = (length l.placed.items ≡ l.buckets) × IsInverse l.item l.choices l.placed.items
