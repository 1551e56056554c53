-- The first a sums have theirs.
use Rattle.co_crew.proofs.Adding.{AreReached}
use Rattle.co_crew.proofs.sums.add_each.Given as goal

abbrev pub invariant-loop-a : goal.invariant-loop-a
invariant-loop-a l = AreReached l.a l.fn.sums l.others l.sums
