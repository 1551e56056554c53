use Rattle.co_rounds.proofs.Rounds.{record_round}
use Rattle.co_rounds.proofs.laws.record_round_opens.Goals as goal

pub returns : goal.returns
returns c = record_round
