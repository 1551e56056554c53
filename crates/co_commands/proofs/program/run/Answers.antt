use Rattle.std.proofs.Common.{Err, refl}
use Rattle.co_commands.specs.declared.refusals.Refusal.TheVariants as refusals
use Rattle.co_commands.proofs.Ending.{ran}
use Rattle.co_commands.proofs.program.run.Goals as goal

pub returns-in-Plain : goal.returns-in-Plain
returns-in-Plain g c = ran _ _ _ _ _ _ _ _ _ c.in-Plain.is c.read_command-command.ensures.value (c.plain.ensures _) c.finish.ensures

pub returns-in-Import : goal.returns-in-Import
returns-in-Import g c = ran _ _ _ _ _ _ _ _ _ c.in-Import.is c.read_command-command.ensures.value (c.import.ensures _) c.finish-in-Import.ensures

pub returns-in-Shape : goal.returns-in-Shape
returns-in-Shape g c = ran _ _ _ _ _ _ _ _ _ c.in-Shape.is c.read_command-command.ensures.value (c.show.ensures _ _) c.finish-in-Shape.ensures

pub returns-in-Local : goal.returns-in-Local
returns-in-Local g c = ran _ _ _ _ _ _ _ _ _ c.in-Local.is c.read_command-command.ensures.value (c.local.ensures _ _) c.finish-in-Local.ensures

pub returns-in-Serve : goal.returns-in-Serve
returns-in-Serve g c = ran _ _ _ _ _ _ _ _ _ c.in-Serve.is c.read_command-command.ensures.value (c.serve.ensures _ _) c.finish-in-Serve.ensures

pub returns-in-Search : goal.returns-in-Search
returns-in-Search g c = ran _ _ _ _ _ _ _ _ _ c.in-Search.is c.read_command-command.ensures.value (c.search_remote.ensures _ _) c.finish-in-Search.ensures

pub returns-in-Rehearse : goal.returns-in-Rehearse
returns-in-Rehearse g c = ran _ _ _ _ _ _ _ _ _ c.in-Rehearse.is c.read_command-command.ensures.value (c.rehearse.ensures _ _ _) c.finish-in-Rehearse.ensures

pub returns-in-Wrong : goal.returns-in-Wrong
returns-in-Wrong g c =
    ran _ _ _ _ _ _ _ (Err refusals.Words) _ c.in-Wrong.is c.read_command-command.ensures.value (record { cause = refl; out = refl; files = refl; uses = refl }) c.finish-in-Wrong.ensures
