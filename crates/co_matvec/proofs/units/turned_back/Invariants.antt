-- The ciphertexts that the first a sums are.
use Rattle.co_matvec.specs.Sums.{AreTurnedBack}
use Rattle.co_matvec.proofs.units.turned_back.Given as goal

abbrev pub invariant-loop-a : goal.invariant-loop-a
invariant-loop-a l = AreTurnedBack l.tables l.a l.sums l.replies.items
