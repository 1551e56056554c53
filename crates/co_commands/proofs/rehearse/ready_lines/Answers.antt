use Rattle.std.proofs.Common.{string_bytes}
use Rattle.std.proofs.lemmas.Result.{err_from_is_err_and}
use Rattle.co_commands.proofs.Rehearsing.{answered, stopped}
use Rattle.co_commands.proofs.rehearse.ready_lines.Goals as goal

pub returns-in-Ok-clause-ok : goal.returns-in-Ok-clause-ok
returns-in-Ok-clause-ok g c =
    answered c.args.command.now c.args.ready.now.loaded (g.R.Rng.stream c.args.rng.now) (g.R.Rng.stream c.try_all.new.rng) c.in_ok-tally.tally (string_bytes c.in-Ok.text)
    c.requires.ready.library c.in_ok-tally.ensures.ok c.in-Ok.ensures

pub returns-in_err-tally-clause-cause : goal.returns-in_err-tally-clause-cause
returns-in_err-tally-clause-cause g c =
    let p = err_from_is_err_and c.from_residual.result c.from_residual.ensures.1 in
    rw (p.1, p.2) (stopped c.args.command.now (g.R.Rng.stream c.args.rng.now) (g.R.Rng.stream c.try_all.new.rng) c.in_err-tally.field-0.0 c.in_err-tally.ensures.cause)
