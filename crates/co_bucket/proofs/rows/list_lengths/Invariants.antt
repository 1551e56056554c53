-- What the loop of `list_lengths` keeps.
use Rattle.co_bucket.specs.Filling.{IsCounted}
use Rattle.co_bucket.proofs.rows.list_lengths.Given as goal

abbrev pub invariant-loop-document : goal.invariant-loop-document
invariant-loop-document l = IsCounted l.salt l.buckets l.document l.counts
