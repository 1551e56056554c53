use Rattle.std.proofs.Common.{◌≡◌, ◌++◌}
use Rattle.co_client.proofs.placing.list_of.Given as goal

abbrev pub invariant-loop-number : goal.invariant-loop-number
invariant-loop-number l =
    (goal.iterator-loop-number).can_next l.number-iterator × (goal.iterator-loop-number).is_finite l.number-iterator
    × (l.list ++ l.number-iterator ≡ l.numbers.keys)
