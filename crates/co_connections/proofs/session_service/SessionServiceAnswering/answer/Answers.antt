use Rattle.std.proofs.Common.{◌∙◌, ap, sym, subst}
use mathlib.Core.Bool.{true≢false}
use Rattle.std.specs.Result.{IsOk}
use Rattle.co_rounds.specs.Answers.{reply_with}
use Rattle.co_connections.proofs.Stepping.{stepped, step_without_memory}
use Rattle.co_connections.proofs.session_service.SessionServiceAnswering.answer.Goals as goal
use Rattle.co_connections.proofs.session_service.SessionServiceAnswering.answer.Goals.{in-Ok, in-Err}

pub returns-clause-answer : goal.returns-clause-answer
returns-clause-answer g c =
    let done = c.requires.ready.1 _ _ _ _ _ _ _ _ (c.self.invariant.0, c.self.invariant.1) c.self.invariant.2 c.call_mut-answer.ensures in
    elim c.match-reply_of.branch [
      | in-Ok w ↦ stepped c.self.inside.loaded.now c.self.inside.session c.call_mut-answer.new.arg2 c.args.self.now c.args.request.now c.call_mut-answer.result c.match-reply_of.result
          c.self.view_is done.0 done.1 (w.result-is ∙ w.in-Ok.ensures.value)
      | in-Err w ↦ step_without_memory c.self.inside.loaded.now c.self.inside.session c.call_mut-answer.new.arg2 c.args.self.now c.args.request.now c.call_mut-answer.result c.match-reply_of.result
          c.self.view_is done.0 done.1 (λ empty. true≢false (sym (subst IsOk w.in-Err.is (c.reply_of.ensures.certain empty)))) (w.result-is ∙ ap (reply_with 503) w.new.ensures)
    ]
