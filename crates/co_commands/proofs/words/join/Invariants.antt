use Rattle.std.proofs.Common.{◌≡◌, ◌++◌, drop, string_bytes}
use Rattle.std.specs.Prelude.{map}
use Rattle.co_commands.specs.Words.{spaced}
use Rattle.co_commands.proofs.words.join.Given as goal

abbrev pub invariant-loop-word : goal.invariant-loop-word
invariant-loop-word l = string_bytes l.text ++ spaced (map string_bytes (drop l.word-index l.others)) ≡ string_bytes l.initial.text ++ spaced (map string_bytes l.others)
