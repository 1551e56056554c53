use Rattle.co_rounds.proofs.Rounds.{record_read}
use Rattle.co_rounds.proofs.laws.records_are_read.Goals as goal

pub returns : goal.returns
returns c = record_read
