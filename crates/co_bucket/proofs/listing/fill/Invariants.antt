-- What the loop of `fill` keeps.
use Rattle.co_bucket.specs.Filling.{contents}
use Rattle.co_bucket.proofs.Stepping.{IsFilled}
use Rattle.co_bucket.proofs.listing.fill.Given as goal

abbrev pub invariant-loop-document : goal.invariant-loop-document
invariant-loop-document l = IsFilled l.salt l.buckets l.document (contents l.lists)
