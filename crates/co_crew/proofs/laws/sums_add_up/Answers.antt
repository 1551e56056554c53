use Rattle.co_crew.proofs.Unit_sums.{units-append}
use Rattle.co_crew.proofs.laws.sums_add_up.Goals as goal

pub returns : goal.returns
returns c = units-append
