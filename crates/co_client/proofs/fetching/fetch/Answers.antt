use Rattle.std.proofs.Common.{arith}
use Rattle.co_link.specs.declared.messages.Target.TheVariants.{Document}
use Rattle.co_client.specs.Rounds.{queries_request}
use Rattle.co_client.proofs.Unanswered.{gives-asked, fails-asked}
use Rattle.co_client.proofs.fetching.fetch.Goals as goal

pub returns-clause-came : goal.returns-clause-came
unfolding queries_request
returns-clause-came g c = gives-asked c.args.reader.now.shape.degree _ _ _ _ Document c.in_ok-query.query _ c.ask_ciphers.result (grind arith) c.in_ok-query.ensures.body c.ask_ciphers.ensures.came

pub returns-clause-refused : goal.returns-clause-refused
unfolding queries_request
returns-clause-refused g c = fails-asked _ _ _ Document c.in_ok-query.query _ c.ask_ciphers.result c.in_ok-query.ensures.body c.ask_ciphers.ensures.refused
