-- The entries seen so far are in range.
use Rattle.std.proofs.Common.{ℕ, ◌<◌, get_or}
use Rattle.coeus_vectors.proofs.matvec.are_within.Given as goal

abbrev pub invariant-loop-entry : goal.invariant-loop-entry
invariant-loop-entry l = (k : ℕ) (d : ℕ × ℕ × ℕ) → k < l.entry-index → ((get_or l.entries k d).0 < l.terms) × ((get_or l.entries k d).1 < l.documents)
