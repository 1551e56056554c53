use Rattle.co_rounds.proofs.Rounds.{public_told}
use Rattle.co_rounds.proofs.laws.public_round_tells.Goals as goal

pub returns : goal.returns
returns c = public_told
