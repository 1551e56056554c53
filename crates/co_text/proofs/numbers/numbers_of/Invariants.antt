-- The numbers so far, and those of the terms that are left, are all.
use Rattle.std.proofs.Common.{◌≡◌, ◌++◌, drop}
use Rattle.co_text.specs.Numbers.{numbers_of}
use Rattle.co_text.proofs.numbers.numbers_of.Given as goal

abbrev pub invariant-loop-term : goal.invariant-loop-term
invariant-loop-term l = l.numbers ++ numbers_of l.vocabulary (drop l.term-index l.term-items) ≡ numbers_of l.vocabulary l.term-items
