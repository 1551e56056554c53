-- So many sums of no products.
use Rattle.std.proofs.Common.{◌≡◌, length}
use Rattle.co_matvec.specs.Sums.{AreEmpty}
use Rattle.co_matvec.proofs.units.empty_sums.Given as goal

abbrev pub invariant-loop-a : goal.invariant-loop-a
invariant-loop-a l = (length l.sums.items ≡ l.a) × AreEmpty l.weights.degree l.sums.items
