-- What the loop of `assign` keeps.
use Rattle.co_bucket.specs.Placement.{IsAssignment}
use Rattle.co_bucket.proofs.placing.assign.Given as goal

abbrev pub invariant-loop-item : goal.invariant-loop-item
invariant-loop-item l = IsAssignment l.candidates l.item l.choices
