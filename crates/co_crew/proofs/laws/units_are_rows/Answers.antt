use Rattle.co_crew.proofs.Unit_sums.{units-rows}
use Rattle.co_crew.proofs.laws.units_are_rows.Goals as goal

pub returns : goal.returns
returns c = units-rows
