use Rattle.co_rounds.proofs.OneAnswer.{one-answer}
use Rattle.co_rounds.proofs.laws.one_answer.Goals as goal

pub returns : goal.returns
returns c = one-answer
