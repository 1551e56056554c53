use Rattle.co_rns.proofs.Centring.{centred_kept, centred_under}
use Rattle.co_rns.proofs.parts.centre.Goals as goal

pub returns-then-value-le32768 : goal.returns-then-value-le32768
returns-then-value-le32768 c = centred_kept c.args.m c.args.value c.if-value-le32768.true c.requires.room

pub returns-else-value-le32768 : goal.returns-else-value-le32768
returns-else-value-le32768 c = centred_under c.args.m c.args.value c.requires.reduced c.if-value-le32768.false c.requires.room
