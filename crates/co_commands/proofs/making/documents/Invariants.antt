use Rattle.std.proofs.Common.{◌≡◌}
use Rattle.co_commands.specs.Generator.{documents_draw}
use Rattle.co_commands.proofs.making.documents.Given as goal

abbrev pub invariant-loop-number : goal.invariant-loop-number
invariant-loop-number l = (l.made, l.state) ≡ documents_draw l.number l.initial.state
