-- The roots of the first k blocks.
use Rattle.co_matvec.proofs.Roots.{AreGathered}
use Rattle.co_matvec.proofs.scores.all_roots.Given as goal

abbrev pub invariant-loop-k : goal.invariant-loop-k
invariant-loop-k g l = AreGathered l.keys l.query l.k l.roots.items l.fn.steps l.steps
