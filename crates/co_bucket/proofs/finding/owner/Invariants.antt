-- What the loop of `owner` keeps.
use Rattle.std.proofs.Common.{◌≢◌, ◌<◌, ℕ, get_or}
use Rattle.co_bucket.proofs.finding.owner.Given as goal

abbrev pub invariant-loop-i : goal.invariant-loop-i
invariant-loop-i l = (x : ℕ) → x < l.i → x ≢ l.hole → get_or l.choices x 0 ≢ l.bucket
