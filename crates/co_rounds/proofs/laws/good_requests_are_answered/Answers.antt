use Rattle.co_rounds.proofs.OneAnswer.{good_answered}
use Rattle.co_rounds.proofs.laws.good_requests_are_answered.Goals as goal

pub returns : goal.returns
returns c = good_answered
