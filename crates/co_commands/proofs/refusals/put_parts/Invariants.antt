use Rattle.std.proofs.Common.{◌≤◌, map, take}
use Rattle.co_link.specs.Causes.{Rose}
use Rattle.co_link.specs.Held.{TookWhole}
use Rattle.co_commands.specs.Refusals.{flat}
use Rattle.co_commands.proofs.refusals.put_parts.Given as goal

abbrev pub invariant-loop-part : goal.invariant-loop-part
invariant-loop-part g l = record {
  later : g.E.Sink.faults l.initial.err ≤ g.E.Sink.faults l.err;
  took : ¬ (Rose (g.E.Sink.faults l.initial.err) (g.E.Sink.faults l.err))
      → TookWhole (g.E.Sink.put_so_far l.initial.err) (g.E.Sink.put_so_far l.err) (flat (map (λ part. part.now) (take l.part-index l.parts)));
}
