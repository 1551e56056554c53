use Rattle.co_commands.specs.Commands.{local_shown}
use Rattle.co_commands.specs.Outside.{files_by}
use Rattle.co_commands.proofs.Outcomes.{ok_as, err_as}
use Rattle.co_commands.proofs.Searching.{found_text, not_found}
use Rattle.co_commands.proofs.local.find.Goals as goal

pub returns-clause-ok : goal.returns-clause-ok
returns-clause-ok g c =
    ok_as c.answer.result _ _ c.answer.ensures.ok
    (λ text found. found_text (local_shown c.args.command.now) (g.F.Files.held c.args.files.now) (g.R.Rng.stream c.args.rng.now) (g.R.Rng.stream c.answer.new.rng)
    c.in_ok-loaded.loaded text c.in_ok-loaded.ensures.ok found)

pub returns-clause-cause : goal.returns-clause-cause
returns-clause-cause g c =
    err_as c.answer.result _ _ c.answer.ensures.cause
    (λ refusal cause. not_found (local_shown c.args.command.now)
    (files_by g.F.Files.held g.F.Files.faults g.F.Files.last_failed c.args.files.now)
    (files_by g.F.Files.held g.F.Files.faults g.F.Files.last_failed c.load.new.files)
    (g.R.Rng.stream c.args.rng.now) (g.R.Rng.stream c.answer.new.rng) c.in_ok-loaded.loaded refusal c.in_ok-loaded.ensures.ok cause)
