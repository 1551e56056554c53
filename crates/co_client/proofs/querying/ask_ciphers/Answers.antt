use Rattle.std.proofs.Common.{◌≡◌, ℕ, ◌*◌, ◌∙◌, max, ap, subst, arith, List, Result, Err}
use Rattle.std.proofs.lemmas.Result.{err_from_is_err_and}
use Rattle.co_link.specs.declared.messages.Request.{Request}
use Rattle.co_noise.specs.Shapes.{Numbers}
use Rattle.co_wire.specs.Lengths.{reply_size, reply_limit}
use Rattle.co_client.specs.declared.fault.SearchFault.{SearchFault}
use Rattle.co_client.specs.Openings.{AreSpelled, IsRefusedBody}
use Rattle.co_client.specs.Rounds.{LinkFails}
use Rattle.co_client.proofs.Unanswered.{ask-round, body-round, limit-is}
use Rattle.co_client.proofs.querying.ask_ciphers.Goals as goal

pub returns-in_err-body-clause-cause : goal.returns-in_err-body-clause-cause
returns-in_err-body-clause-cause g c =
    let p = err_from_is_err_and c.from_residual.result c.from_residual.ensures.1 in
    let limit : c.max-limit.result ≡ reply_limit c.args.reader.now.shape c.args.target =
    c.max-limit.ensures ∙ ap (λ (k : ℕ). max k 256) (c.reply_length.ensures.value ∙ ap (λ (x : Numbers). reply_size x c.args.target) c.tested-2.ensures) ∙ limit-is c.args.reader.now.shape c.args.target c.requires.target.0 c.requires.target.1 in
    let P : ℕ → Result (List ℕ) SearchFault → Type 0 = λ k r. LinkFails (g.K.Link.faults c.args.link.now) (g.K.Link.faults c.ask.new.link) (g.K.Link.last_failed c.ask.new.link) (record { target = c.args.target; limit = k }) r in
    rw (p.1, p.2) (subst (λ (k : ℕ). P k (Err c.in_err-body.field-0.0)) limit (subst (λ (r : Result (List ℕ) SearchFault). P c.max-limit.result r) c.in_err-body.was c.ask.ensures.cause))

pub returns-in_err-body-clause-refused : goal.returns-in_err-body-clause-refused
returns-in_err-body-clause-refused g c =
    let p = err_from_is_err_and c.from_residual.result c.from_residual.ensures.1 in
    let asked : Request = record { target = c.args.target; body = c.args.queries } in
    rw (p.1, p.2) (ask-round (reply_size c.args.reader.now.shape c.args.target) (g.K.Link.exchanges c.args.link.now) (g.K.Link.exchanges c.ask.new.link) asked c.in_err-body.field-0.0 c.in_err-body.ensures.refused)

pub returns-clause-came : goal.returns-clause-came
returns-clause-came g c =
    let degree : c.of-degree.result ≡ c.args.reader.now.shape.degree = grind arith in
    let spelled = subst (λ (b : List ℕ). AreSpelled c.of-degree.result c.args.count b) c.as_slice.ensures c.in_ok-check_reply.ensures.spelled in
    record {
      comes = c.in_ok-body.ensures.came;
      spelled = subst (λ (k : ℕ). AreSpelled k c.args.count c.in_ok-body.body) degree spelled;
    }

pub returns-in_err-check_reply-clause-refused : goal.returns-in_err-check_reply-clause-refused
returns-in_err-check_reply-clause-refused g c =
    let p = err_from_is_err_and c.from_residual-in_err-check_reply.result c.from_residual-in_err-check_reply.ensures.1 in
    let asked : Request = record { target = c.args.target; body = c.args.queries } in
    let degree : c.of-degree.result ≡ c.args.reader.now.shape.degree = grind arith in
    let size : c.args.count * (28 * c.of-degree.result) ≡ reply_size c.args.reader.now.shape c.args.target = ap (λ (k : ℕ). c.args.count * (28 * k)) degree ∙ c.requires.count in
    let bad = subst (λ (b : List ℕ). IsRefusedBody (c.args.count * (28 * c.of-degree.result)) c.args.target b c.in_err-check_reply.field-0.0) c.as_slice.ensures c.in_err-check_reply.ensures.refused in
    rw (p.1, p.2)
    (body-round (reply_size c.args.reader.now.shape c.args.target) (g.K.Link.exchanges c.args.link.now) (g.K.Link.exchanges c.ask.new.link) asked c.in_ok-body.body c.in_err-check_reply.field-0.0 c.in_ok-body.ensures.came
    (subst (λ (k : ℕ). IsRefusedBody k c.args.target c.in_ok-body.body c.in_err-check_reply.field-0.0) size bad))
