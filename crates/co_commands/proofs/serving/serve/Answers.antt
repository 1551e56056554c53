use Rattle.std.proofs.Common.{refl}
use Rattle.std.proofs.lemmas.Result.{err_from_is_err_and}
use Rattle.co_commands.specs.Commands.{serve_shown}
use Rattle.co_commands.proofs.Serves.{unopened}
use Rattle.co_commands.proofs.serving.serve.Goals as goal

pub returns-in_err-loaded : goal.returns-in_err-loaded
returns-in_err-loaded g c = λ random dial.
    let p = err_from_is_err_and c.from_residual.result c.from_residual.ensures.1 in
    rw (p.1, p.2)
    (unopened (serve_shown c.args.command.now) _ _ c.in_err-loaded.field-0.0 c.in_err-loaded.ensures.cause refl refl c.in_err-loaded.ensures.files)

pub returns : goal.returns
returns g c = λ random dial. c.serve_loaded.ensures _ _ random dial c.in_ok-loaded.ensures.ok c.in_ok-loaded.ensures.files
