-- What is left of the words to read.
use Rattle.std.specs.Prelude.{ℕ, ◌+◌, length, map, Option, Some, None, string_bytes}
use Rattle.co_commands.specs.Words.{Rest, rest_of}
use Rattle.co_commands.specs.Commands.{rest_shown}
use Rattle.co_commands.specs.declared.options.Next.{Next}
use Rattle.co_commands.specs.declared.options.Next.TheVariants.{End, More, Wrong}

-- what is read from here on
abbrev pub next_shown : Next → Option Rest
next_shown (End r) = Some (rest_shown r)
next_shown (More o ws) = rest_of o (map string_bytes ws.now)
next_shown Wrong = None

-- how many words are left to read, and one more where an option was read
abbrev pub words_left : Next → ℕ
words_left (More o ws) = length ws.now + 1
words_left (End r) = 0
words_left Wrong = 0
