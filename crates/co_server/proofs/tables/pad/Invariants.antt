use Rattle.std.proofs.Common.{◌≡◌, ◌++◌, replicate}
use Rattle.co_server.proofs.tables.pad.Given as goal

abbrev pub invariant-loop-added : goal.invariant-loop-added
invariant-loop-added l = l.out.items ≡ l.initial.out.items ++ replicate l.added 0
