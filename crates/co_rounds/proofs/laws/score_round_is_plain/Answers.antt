use Rattle.co_rounds.proofs.Rounds.{score_round}
use Rattle.co_rounds.proofs.laws.score_round_is_plain.Goals as goal

pub returns : goal.returns
returns c = score_round
