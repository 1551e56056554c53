use Rattle.co_client.proofs.Opened.{at-opened, at-within, at-long}
use Rattle.co_client.proofs.reading.open_at.Goals as goal

pub returns-clause-opened : goal.returns-clause-opened
returns-clause-opened c =
    at-opened c.args.degree c.args.secret.now c.args.body.now c.args.at c.in-Ok.cipher c.open_reply.result c.in-Ok.ensures.value c.open_reply.ensures.bytes c.open_reply.ensures.fault

pub returns-clause-within : goal.returns-clause-within
returns-clause-within c = at-within c.args.degree c.args.secret.now c.in-Ok.cipher c.open_reply.result c.in-Ok.ensures.degree c.open_reply.ensures.fault

pub returns-clause-long : goal.returns-clause-long
returns-clause-long c = at-long c.args.degree c.args.secret.now c.in-Ok.cipher c.open_reply.result c.in-Ok.ensures.degree c.open_reply.ensures.bytes
