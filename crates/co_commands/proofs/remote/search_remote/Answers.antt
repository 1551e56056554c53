use Rattle.std.proofs.Common.{refl, ◌∙◌}
use Rattle.std.proofs.lemmas.Result.{err_from_is_err_and}
use Rattle.co_commands.specs.Words.{SpokenSearch}
use Rattle.co_commands.specs.Commands.{search_shown}
use Rattle.co_commands.proofs.Ending.{put_ends}
use Rattle.co_commands.proofs.Remotes.{remote_refused}
use Rattle.co_commands.proofs.remote.search_remote.Goals as goal

pub returns-in_err-found : goal.returns-in_err-found
returns-in_err-found g c = λ files port.
    let a = c.in_err-found.ensures port in
    let p = err_from_is_err_and c.from_residual.result c.from_residual.ensures.1 in
    rw (p.1, p.2) (remote_refused (search_shown c.args.command.now) _ _ c.in_err-found.field-0.0 a.finds (refl, a.dials) refl refl)

pub returns-in_default : goal.returns-in_default
returns-in_default g c = λ files port. record { cause = tt; out = refl; files = refl; uses = (refl, (c.in_ok-found.ensures port).dials) }

pub returns : goal.returns
returns g c = λ files port.
    let a = c.in_ok-found.ensures port in
    put_ends (SpokenSearch (search_shown c.args.command.now)) _ _ c.as_slice.result.now c.put_answer.result c.put_answer.ensures
    (record { found = c.in_ok-found.found; sought = a.finds; text_is = c.as_slice.ensures ∙ c.in-Ok.ensures }) (λ p. p) tt refl (refl, a.dials)
