use Rattle.std.specs.Prelude.{take}
use Rattle.co_commands.specs.Generator.{queries_of}
use Rattle.co_commands.specs.Trials.{AreTriedFor}
use Rattle.co_commands.proofs.rehearse.try_all.Given as goal

abbrev pub invariant-loop-place : goal.invariant-loop-place
invariant-loop-place g l =
    AreTriedFor l.command l.ready.loaded (take l.place (queries_of l.command.number)) (g.R.Rng.stream l.initial.rng) (g.R.Rng.stream l.rng) l.tally
