use Rattle.std.proofs.lemmas.Result.{err_from_is_err_and}
use Rattle.co_wire.specs.Public.{public_of}
use Rattle.co_wire.proofs.Steps.{here_fails, then_fails, then_is, ended_is}
use Rattle.co_wire.proofs.reading.all_public.Goals as goal

pub returns-in_err-read_word : goal.returns-in_err-read_word
unfolding public_of
returns-in_err-read_word c =
    let p = err_from_is_err_and c.from_residual.result c.from_residual.ensures.1 in
    let fault = c.in_err-read_word.field-0.0 in
    rw (p.1, p.2) (here_fails fault _ _ (here_fails fault _ _ (rw c.new-cursor.ensures at c.in_err-read_word.ensures.value)))

pub returns-in_err-found : goal.returns-in_err-found
unfolding public_of
returns-in_err-found c =
    let p = err_from_is_err_and c.from_residual-in_err-found.result c.from_residual-in_err-found.ensures.1 in
    let fault = c.in_err-found.field-0.0 in
    rw (p.1, p.2) (here_fails fault _ _ (then_fails fault _ _ _ (rw c.new-cursor.ensures at c.in_ok-read_word.ensures.value) c.in_err-found.ensures))

pub returns : goal.returns
unfolding public_of
returns c =
    then_is _ _ _ _ (then_is _ _ _ _ (rw c.new-cursor.ensures at c.in_ok-read_word.ensures.value) c.in_ok-found.ensures) (ended_is _ _ _ c.in_ok-read_end.ensures)
