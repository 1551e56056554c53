use Rattle.std.proofs.Common.{◌∙◌}
use Rattle.std.proofs.lemmas.Result.{err_from_is_err_and}
use Rattle.co_commands.proofs.Talks.{at_first, next_served, next_unput, next_unserved}
use Rattle.co_commands.proofs.serving.serve_all.Goals as goal

pub serving-init : goal.serving-init
serving-init g c = at_first _ _ _ _ c.requires.listens

pub serving-preserved : goal.serving-preserved
serving-preserved g c =
    next_served c.args.loaded.now c.serving.number c.args.connections _ _ _ _ _ _ c.in_ok-served.served _ c.serving-test.true c.serving.invariant c.in_ok-served.ensures
    (c.as_slice.ensures ∙ c.connection_line-line.ensures) c.in_ok-put_answer.ensures

pub returns-in_err-served : goal.returns-in_err-served
returns-in_err-served g c =
    let p = err_from_is_err_and c.from_residual.result c.from_residual.ensures.1 in
    rw (p.1, p.2)
    (next_unserved c.args.loaded.now c.serving.number c.args.connections _ _ _ _ _ c.in_err-served.field-0.0 c.serving-test.true c.serving.invariant
    c.in_err-served.ensures)

pub returns-in_err-put_answer : goal.returns-in_err-put_answer
returns-in_err-put_answer g c =
    let p = err_from_is_err_and c.from_residual-in_err-put_answer.result c.from_residual-in_err-put_answer.ensures.1 in
    rw (p.1, p.2)
    (next_unput c.args.loaded.now c.serving.number c.args.connections _ _ _ _ _ _ c.in_ok-served.served _ c.in_err-put_answer.field-0.0 c.serving-test.true
    c.serving.invariant c.in_ok-served.ensures (c.as_slice.ensures ∙ c.connection_line-line.ensures) c.in_err-put_answer.ensures)
