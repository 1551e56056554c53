-- What the loop of `count_all` keeps.
use Rattle.std.proofs.Common.{◌+◌, take}
use Rattle.co_bucket.specs.Filling.{IsStepped}
use Rattle.co_bucket.proofs.rows.count_all.Given as goal

abbrev pub invariant-loop-i : goal.invariant-loop-i
invariant-loop-i l = IsStepped 0 (λ n. n + 1) l.initial.counts (take l.i l.row) l.counts
