-- The entries before the next ascend.
use Rattle.std.proofs.Common.{ℕ, ◌+◌, ◌<◌, get_or}
use Rattle.co_matvec.specs.Weights.{Precedes}
use Rattle.coeus_vectors.proofs.matvec.ascend.Given as goal

abbrev pub invariant-loop-next : goal.invariant-loop-next
invariant-loop-next l = (k : ℕ) (d : ℕ × ℕ × ℕ) → k + 1 < l.next → Precedes (get_or l.entries k d) (get_or l.entries (k + 1) d)
