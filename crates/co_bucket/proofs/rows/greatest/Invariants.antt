-- What the loop of `greatest` keeps.
use Rattle.std.proofs.Common.{◌≡◌, max, drop}
use Rattle.std.specs.List.{fold}
use Rattle.co_bucket.proofs.rows.greatest.Given as goal

abbrev pub invariant-loop-number : goal.invariant-loop-number
invariant-loop-number l = fold max l.most (drop l.number-index l.numbers) ≡ fold max 0 l.numbers
