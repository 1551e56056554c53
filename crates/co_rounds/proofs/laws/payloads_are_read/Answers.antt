use Rattle.co_rounds.proofs.Retrievable.{bytes_read, payload_small}
use Rattle.co_rounds.proofs.laws.payloads_are_read.Goals as goal

pub returns-clause-bytes : goal.returns-clause-bytes
returns-clause-bytes c = bytes_read

pub returns-clause-small : goal.returns-clause-small
returns-clause-small c = payload_small
