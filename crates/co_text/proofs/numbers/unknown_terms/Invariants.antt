use Rattle.std.proofs.Common.{◌≡◌, take}
use Rattle.co_text.specs.Numbers.{unknown_in}
use Rattle.co_text.proofs.numbers.unknown_terms.Given as goal

abbrev pub invariant-loop-term : goal.invariant-loop-term
invariant-loop-term l = l.unknown ≡ unknown_in l.vocabulary (take l.term-index l.term-items)
