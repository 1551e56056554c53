use Rattle.co_rns.proofs.Digits.{digits-sum}
use Rattle.co_rns.proofs.laws.digits.Goals as goal

pub returns : goal.returns
returns c = digits-sum
