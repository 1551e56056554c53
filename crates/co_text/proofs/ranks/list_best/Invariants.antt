-- The documents so far, and those that are left, are all.
use Rattle.std.proofs.Common.{◌≡◌, ◌++◌}
use Rattle.std.specs.Prelude.{map}
use Rattle.co_text.specs.Keys.{shown}
use Rattle.co_text.proofs.ranks.list_best.Given as goal

abbrev pub invariant-loop-score : goal.invariant-loop-score
invariant-loop-score l =
    (goal.iterator-loop-score).can_next l.score-iterator × (goal.iterator-loop-score).is_finite l.score-iterator
    × (l.hits ++ map shown l.score-iterator ≡ map shown l.best.keys)
