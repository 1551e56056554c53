-- What the loop of `explore` keeps.
use Rattle.co_bucket.specs.Reached.{IsExploring}
use Rattle.co_bucket.proofs.finding.explore.Given as goal

abbrev pub invariant-loop-bucket : goal.invariant-loop-bucket
invariant-loop-bucket l = IsExploring l.candidates l.count l.hole l.choices l.initial.reached.items.items l.initial.reached.buckets.items
    l.reached.items.items l.reached.buckets.items l.reached.shifted.items l.at l.bucket-items l.bucket-index
