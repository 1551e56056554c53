use Rattle.std.proofs.Common.{◌≡◌, ℕ, ◌<◌, ◌%◌, length, get_or}
use Rattle.co_transform.proofs.sums.reduce_sums.Given as goal

abbrev pub invariant-loop-i : goal.invariant-loop-i
invariant-loop-i l = record {
  len : length l.into ≡ length l.initial.into;
  done : (k : ℕ) → k < l.i → get_or l.into k 0 ≡ get_or l.sums k 0 % l.by.q;
}
