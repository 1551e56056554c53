use Rattle.std.proofs.Common.{arith}
use Rattle.co_client.proofs.scoring.fill_slots.Goals as goal

pub returns-clause-slots : goal.returns-clause-slots
returns-clause-slots c = λ p l. c.loop-p.invariant.slots p (omega arith)

pub returns-clause-small : goal.returns-clause-small
returns-clause-small c = λ p l. c.loop-p.invariant.small p (omega arith)
