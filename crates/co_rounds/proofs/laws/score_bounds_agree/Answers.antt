use Rattle.co_rounds.proofs.Weighing.{bounds_agree}
use Rattle.co_rounds.proofs.laws.score_bounds_agree.Goals as goal

pub returns : goal.returns
returns c = bounds_agree
