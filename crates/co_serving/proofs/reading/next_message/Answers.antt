use Rattle.std.proofs.Common.{◌≡◌, ◌∙◌, ℕ, Some, None, Ok, refl, sym, ap, subst}
use Rattle.co_http.specs.Conn.{kept, unread}
use Rattle.co_serving.specs.declared.message.Message.TheVariants as messages
use Rattle.co_serving.specs.declared.response.Response.TheVariants.{Refused}
use Rattle.co_serving.specs.Conversation.{refusal}
use Rattle.co_serving.specs.Reading.{ReadsRequest}
use Rattle.co_serving.proofs.MessageLemmas.{ends_closed, next_at, next_refused, next_asked}
use Rattle.co_serving.proofs.RefusalLemmas.{refusal_unknown, refusal_known, refusal_closes, reads_at}
use Rattle.co_serving.proofs.reading.next_message.Goals as goal

pub returns-in-Ok-None-clause-reads : goal.returns-in-Ok-None-clause-reads
returns-in-Ok-None-clause-reads g c =
    let reads = reads_at (kept c.args.conn.now) _ _ c.read_head.result (Ok None) (c.in-Ok-None.is ∙ ap Ok c.in-Ok-None.field-0-is) c.read_head.ensures.reads in
    (tt, ends_closed (kept c.args.conn.now) _ _ c.requires reads)

pub returns-in_default-clause-reads : goal.returns-in_default-clause-reads
returns-in_default-clause-reads g c =
    let head = c.in-Ok-Some.head in
    let reads = reads_at (kept c.args.conn.now) _ _ c.read_head.result (Ok (Some head)) (c.in-Ok-Some.is ∙ ap Ok c.in-Ok-Some.field-0-is) c.read_head.ensures.reads in
    let wanted = g.W.Lengths.wanted c.args.lengths.now in
    next_at wanted _ (unread c.read_head.new.self (g.C.Source.left c.read_head.new.source)) (g.C.Source.left c.read_head.new.source) (Ok (messages.Refused (Refused 404))) (Ok c.refused-in_default.result) (ap Ok (sym c.refused-in_default.ensures))
    (next_refused wanted (kept c.args.conn.now) _ _ (g.C.Source.left c.read_head.new.source) (unread c.read_head.new.self (g.C.Source.left c.read_head.new.source)) head (Refused 404) c.requires reads (refusal_unknown wanted head c.in_default.is) refl)

pub returns-in-Some-refuse-clause-reads : goal.returns-in-Some-refuse-clause-reads
returns-in-Some-refuse-clause-reads g c =
    let head = c.in-Ok-Some.head in
    let wanted = g.W.Lengths.wanted c.args.lengths.now in
    let reads = reads_at (kept c.args.conn.now) _ _ c.read_head.result (Ok (Some head)) (c.in-Ok-Some.is ∙ ap Ok c.in-Ok-Some.field-0-is) c.read_head.ensures.reads in
    let known : refusal wanted head ≡ Some c.in-Some-refuse.response =
    refusal_known wanted head c.in-Some.target c.request_length-length.result c.method_of.result c.in-Some.is c.request_length-length.ensures c.method_of.ensures ∙ sym c.refuse.ensures.refusal ∙ c.in-Some-refuse.is in
    next_refused wanted (kept c.args.conn.now) _ _ (g.C.Source.left c.read_head.new.source) (unread c.read_head.new.self (g.C.Source.left c.read_head.new.source)) head c.in-Some-refuse.response
    c.requires reads known (refusal_closes wanted head c.in-Some-refuse.response known)

pub returns-in-None-clause-reads : goal.returns-in-None-clause-reads
returns-in-None-clause-reads g c =
    let head = c.in-Ok-Some.head in
    let wanted = g.W.Lengths.wanted c.args.lengths.now in
    let reads = reads_at (kept c.args.conn.now) _ _ c.read_head.result (Ok (Some head)) (c.in-Ok-Some.is ∙ ap Ok c.in-Ok-Some.field-0-is) c.read_head.ensures.reads in
    let known : refusal wanted head ≡ None =
    refusal_known wanted head c.in-Some.target c.request_length-length.result c.method_of.result c.in-Some.is c.request_length-length.ensures c.method_of.ensures ∙ sym c.refuse.ensures.refusal ∙ c.in-None.is in
    let body : ReadsRequest (wanted c.in-Some.target) c.in-Some.target (unread c.read_head.new.self (g.C.Source.left c.read_head.new.source)) (unread c.read_request.new.conn (g.C.Source.left c.read_request.new.line)) (g.C.Source.left c.read_request.new.line) c.read_request.result =
    subst (λ (n : ℕ). ReadsRequest n c.in-Some.target (unread c.read_head.new.self (g.C.Source.left c.read_head.new.source)) (unread c.read_request.new.conn (g.C.Source.left c.read_request.new.line)) (g.C.Source.left c.read_request.new.line) c.read_request.result) c.request_length-length.ensures c.read_request.ensures.reads in
    next_asked wanted (kept c.args.conn.now) _ _ _ _ head c.in-Some.target c.read_request.result
    c.requires reads known c.in-Some.is body
