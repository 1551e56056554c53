-- What the loop of `lower_all` keeps.
use Rattle.co_bucket.specs.Lowering.{IsNarrowing}
use Rattle.co_bucket.proofs.placing.lower_all.Given as goal

abbrev pub invariant-loop-item : goal.invariant-loop-item
invariant-loop-item l = IsNarrowing l.candidates l.narrowed l.choices l.item
