use Rattle.std.proofs.Common.{◌≡◌, string_bytes}
use Rattle.std.specs.Prelude.{map}
use Rattle.co_commands.specs.Words.{rest_of, no_options}
use Rattle.co_commands.specs.Next.{next_shown, words_left}
use Rattle.co_commands.proofs.options.read_options.Given as goal

abbrev pub invariant-loop-next : goal.invariant-loop-next
invariant-loop-next l = next_shown l.next ≡ rest_of no_options (map string_bytes l.words)

abbrev pub decreases-loop-next : goal.decreases-loop-next
decreases-loop-next l = words_left l.next
