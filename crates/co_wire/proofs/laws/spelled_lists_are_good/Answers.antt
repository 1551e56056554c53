use Rattle.co_wire.proofs.Good_bodies.{good-list}
use Rattle.co_wire.proofs.laws.spelled_lists_are_good.Goals as goal

pub returns : goal.returns
returns c = good-list
