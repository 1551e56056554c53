use Rattle.std.proofs.Common.{refl, ◌∙◌}
use Rattle.std.proofs.lemmas.Result.{err_from_is_err_and}
use Rattle.co_commands.specs.Words.{SpokenShape}
use Rattle.co_commands.proofs.Ending.{put_fails}
use Rattle.co_commands.proofs.shape.show.Goals as goal

pub returns-in_err-put_answer : goal.returns-in_err-put_answer
returns-in_err-put_answer g c = λ files devices.
    let p = err_from_is_err_and c.from_residual.result c.from_residual.ensures.1 in
    rw (p.1, p.2)
    (put_fails (SpokenShape c.args.shape.now) _ _ c.as_slice.result.now c.in_err-put_answer.field-0.0 c.in_err-put_answer.ensures
    (c.as_slice.ensures ∙ c.in-Ok.ensures) refl refl)
