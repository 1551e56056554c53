-- What the loop of `search` keeps.
use Rattle.std.proofs.Common.{◌-◌}
use Rattle.co_bucket.specs.Reached.{IsSearching}
use Rattle.co_bucket.proofs.finding.search.Given as goal

abbrev pub invariant-loop-at : goal.invariant-loop-at
invariant-loop-at l = IsSearching l.candidates l.count l.hole l.choices l.reached.items.items l.reached.buckets.items l.reached.shifted.items l.at

abbrev pub decreases-loop-at : goal.decreases-loop-at
decreases-loop-at l = l.count - l.at
