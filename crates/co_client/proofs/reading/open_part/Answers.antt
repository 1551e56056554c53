use Rattle.std.proofs.Common.{◌*◌}
use Rattle.co_pir.specs.Openings.{opened_reply}
use Rattle.co_client.specs.Openings.{part_of}
use Rattle.co_client.proofs.Firsts.{opened-ok, opened-no}
use Rattle.co_client.proofs.reading.open_part.Goals as goal

pub returns-in-Ok-clause-read : goal.returns-in-Ok-clause-read
returns-in-Ok-clause-read c = λ cs all s.
    opened-ok c.args.target c.args.reply (opened_reply c.args.secret.now (part_of (c.args.reply * c.args.count) c.args.count cs)) _ (c.in-Ok.ensures.opened cs all s)

pub returns-in-Err-NotByte-clause-read : goal.returns-in-Err-NotByte-clause-read
returns-in-Err-NotByte-clause-read c = λ cs all s _.
    opened-no c.args.target c.args.reply c.in-Err-NotByte.place (opened_reply c.args.secret.now (part_of (c.args.reply * c.args.count) c.args.count cs)) ((rw c.in-Err-NotByte.field-0-is at c.in-Err-NotByte.ensures.opened) cs all s)
