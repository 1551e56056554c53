use Rattle.std.proofs.Common.{◌+◌, ◌≤◌, ◌∙◌, Ok, Err, Some, None, sym, ap, subst, arith}
use Rattle.std.specs.Prelude.{IfSome}
use Rattle.co_serving.specs.declared.ended.Ended.{Ended}
use Rattle.co_serving.specs.Conversation.{Serves}
use Rattle.co_serving.proofs.ServingLemmas.{told_turns}
use Rattle.co_serving.proofs.serving.serve_by.Goals as goal

pub serving-preserved : goal.serving-preserved
serving-preserved g c =
    let takes_later : g.C.Source.faults c.args.line.now ≤ g.C.Source.faults c.serve_next.new.line = omega arith in
    let puts_later : g.C.Sink.faults c.args.line.now ≤ g.C.Sink.faults c.serve_next.new.line = omega arith in
    let most : c.serving.requests + 1 ≤ 1000 = omega arith in
    record {
      told = told_turns g.A.Lengths.wanted g.A.Answering.answers _ _ _ _ _ _ _ _ _ _ _ c.serve_next.result (Ok None) (c.in-Ok-None.is ∙ ap Ok c.in-Ok-None.field-0-is) c.serving-test.true c.serve_next.ensures.serves c.serving.invariant.told;
      ready = c.serve_next.ensures.ready;
      kept = c.in-Ok-None.ensures.kept c.in-Ok-None.field-0-is;
      writes = c.in-Ok-None.ensures.writes;
      most = most;
      takes_later = takes_later;
      beside = c.serve_next.ensures.beside ∙ c.serving.invariant.beside;
      puts_later = puts_later;
    }

pub returns-in-Ok-Some-clause-serves : goal.returns-in-Ok-Some-clause-serves
returns-in-Ok-Some-clause-serves g c =
    let status = c.in-Ok-Some.status in
    let turned = told_turns g.A.Lengths.wanted g.A.Answering.answers _ _ _ _ _ _ _ _ _ _ _ c.serve_next.result (Ok (Some status)) (c.in-Ok-Some.is ∙ ap Ok c.in-Ok-Some.field-0-is) c.serving-test.true c.serve_next.ensures.serves c.serving.invariant.told in
    let P : Ended → Type 0 = λ ended. IfSome (g.C.Source.left c.args.line.now) (λ input. IfSome (g.C.Sink.put_so_far c.args.line.now) (λ put.
    Serves g.A.Lengths.wanted g.A.Answering.answers c.args.answering.now c.serve_next.new.answering input (g.C.Source.left c.serve_next.new.line) put (g.C.Sink.put_so_far c.serve_next.new.line) (c.serving.requests + 1) ended)) in
    subst P (sym c.closed_by.ensures) turned

pub returns-in-Err-clause-serves : goal.returns-in-Err-clause-serves
returns-in-Err-clause-serves g c =
    told_turns g.A.Lengths.wanted g.A.Answering.answers _ _ _ _ _ _ _ _ _ _ _ c.serve_next.result (Err c.in-Err.ended) c.in-Err.is c.serving-test.true c.serve_next.ensures.serves c.serving.invariant.told
