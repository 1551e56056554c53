use Rattle.std.proofs.Common.{suc, arith}
use Rattle.co_bucket.proofs.OneAnswer.{same_choices, same_placement}
use Rattle.co_bucket.proofs.laws.one_placement.Goals as goal

pub returns-clause-choices : goal.returns-clause-choices
returns-clause-choices c = λ cs bs ds p q i within. same_choices cs bs ds p q (suc i) i (omega arith) within

pub returns-clause-placed : goal.returns-clause-placed
returns-clause-placed c = same_placement
