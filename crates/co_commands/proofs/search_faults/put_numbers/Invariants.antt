use Rattle.std.proofs.Common.{◌≤◌, take}
use Rattle.co_link.specs.Causes.{Rose}
use Rattle.co_link.specs.Held.{TookWhole}
use Rattle.co_commands.specs.Refusals.{numbers_text}
use Rattle.co_commands.proofs.search_faults.put_numbers.Given as goal

abbrev pub invariant-loop-number : goal.invariant-loop-number
invariant-loop-number g l = record {
  later : g.E.Sink.faults l.initial.err ≤ g.E.Sink.faults l.err;
  took : ¬ (Rose (g.E.Sink.faults l.initial.err) (g.E.Sink.faults l.err))
      → TookWhole (g.E.Sink.put_so_far l.initial.err) (g.E.Sink.put_so_far l.err) (numbers_text (take l.number-index l.numbers));
}
