-- What the loop of `longest_length` keeps.
use Rattle.std.proofs.Common.{◌≡◌, length, map, max, drop}
use Rattle.std.specs.List.{fold}
use Rattle.co_bucket.specs.Rows.{longest}
use Rattle.co_bucket.specs.Filling.{contents}
use Rattle.co_bucket.proofs.rows.longest_length.Given as goal

abbrev pub invariant-loop-i : goal.invariant-loop-i
invariant-loop-i l = fold max l.most (drop l.i (map length (contents l.lists))) ≡ longest (contents l.lists)
