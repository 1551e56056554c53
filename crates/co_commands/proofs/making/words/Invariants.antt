use Rattle.std.proofs.Common.{◌≡◌, map, string_bytes}
use Rattle.co_commands.specs.Generator.{words_draw}
use Rattle.co_commands.proofs.making.words.Given as goal

abbrev pub invariant-loop : goal.invariant-loop
invariant-loop l = (map string_bytes l.made.items, l.state) ≡ words_draw l.counter l.initial.state
