-- What the loop of `lower` keeps.
use Rattle.co_bucket.specs.Lowering.{IsLowering}
use Rattle.co_bucket.proofs.placing.lower.Given as goal

abbrev pub invariant-loop-bucket : goal.invariant-loop-bucket
invariant-loop-bucket l = IsLowering l.initial.narrowed l.narrowed l.item l.row l.choices l.bucket-index
