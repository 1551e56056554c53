use Rattle.co_transform.specs.Gathered.{Gathered}
use Rattle.co_transform.proofs.sums.gather.Given as goal

abbrev pub invariant-loop-i : goal.invariant-loop-i
invariant-loop-i l = Gathered l.initial.sums l.a l.b l.i l.sums
