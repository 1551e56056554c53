-- The first a sums have theirs.
use Rattle.std.proofs.Common.{◌≡◌, All}
use Rattle.co_rns.specs.Spectra.{spectrum_degree}
use Rattle.co_matvec.specs.Sums.{IsAdded, sum_at}
use Rattle.co_matvec.proofs.Reaching.{AreReached}
use Rattle.co_matvec.proofs.units.add_sums.Given as goal

abbrev pub invariant-loop-a : goal.invariant-loop-a
invariant-loop-a l = record {
  added : AreReached (λ a x y. IsAdded x (sum_at l.others a) y) l.a l.fn.sums l.sums;
  degrees : All (λ s. s.degree ≡ l.n) l.sums;
  room : spectrum_degree l.room ≡ l.n;
}
