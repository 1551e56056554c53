use Rattle.std.proofs.Common.{◌≡◌, map, string_bytes}
use Rattle.co_commands.specs.Generator.{queries_draw}
use Rattle.co_commands.proofs.making.queries.Given as goal

abbrev pub invariant-loop-number : goal.invariant-loop-number
invariant-loop-number l = (map (λ words. map string_bytes words.items) l.made.items, l.state) ≡ queries_draw l.number l.initial.state
