use Rattle.std.proofs.Common.{◌≡◌, ℕ, ◌<◌, length, get_or}
use Rattle.co_transform.proofs.sums.clear.Given as goal

abbrev pub invariant-loop-i : goal.invariant-loop-i
invariant-loop-i l = record {
  len : length l.sums ≡ length l.initial.sums;
  done : (k : ℕ) → k < l.i → get_or l.sums k 0 ≡ 0;
}
