use Rattle.std.proofs.Common.{Ok, ap}
use Rattle.co_serving.specs.declared.message.Message.TheVariants as messages
use Rattle.co_serving.proofs.MessageLemmas.{message_refused, message_answered, next_at}
use Rattle.co_serving.proofs.reading.read_message.Goals as goal

pub returns-in-Refused-clause-reads : goal.returns-in-Refused-clause-reads
returns-in-Refused-clause-reads g c =
    message_refused g.A.Lengths.wanted g.A.Answering.answers c.args.answering.now _ _ (g.C.Source.left c.next_message.new.line) c.in-Refused.response
    (next_at (g.A.Lengths.wanted c.args.answering.now) _ _ (g.C.Source.left c.next_message.new.line) (Ok c.in_ok-response.field-0) (Ok (messages.Refused c.in-Refused.response)) (ap Ok c.in-Refused.is) c.in_ok-response.ensures.reads)

pub returns-in-Asked-clause-reads : goal.returns-in-Asked-clause-reads
returns-in-Asked-clause-reads g c =
    message_answered g.A.Lengths.wanted g.A.Answering.answers c.args.answering.now c.answer-reply.new.self _ _ (g.C.Source.left c.next_message.new.line) c.in-Asked.request c.answer-reply.result
    (next_at (g.A.Lengths.wanted c.args.answering.now) _ _ (g.C.Source.left c.next_message.new.line) (Ok c.in_ok-response.field-0) (Ok (messages.Asked c.in-Asked.request)) (ap Ok c.in-Asked.is) c.in_ok-response.ensures.reads) c.answer-reply.ensures.answer
