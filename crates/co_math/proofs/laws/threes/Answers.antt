use Rattle.co_math.proofs.Orders.{three_is_one_and_odd}
use Rattle.co_math.proofs.laws.threes.Goals as goal

pub returns : goal.returns
returns c = three_is_one_and_odd
