use Rattle.std.proofs.Common.{◌≡◌, ◌++◌, take}
use Rattle.co_client.proofs.scoring.add_scores.Given as goal

abbrev pub invariant-loop-slot : goal.invariant-loop-slot
invariant-loop-slot l = l.scores.items ≡ l.initial.scores.items ++ take l.slot-index (take l.count l.slots)
