use Rattle.co_math.proofs.Geometric.{geometric}
use Rattle.co_math.proofs.laws.sums.Goals as goal

pub returns : goal.returns
returns c = geometric
