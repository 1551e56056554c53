use Rattle.co_crew.proofs.Unit_sums.{units-each}
use Rattle.co_crew.proofs.laws.order_makes_no_difference.Goals as goal

pub returns : goal.returns
returns c = units-each
