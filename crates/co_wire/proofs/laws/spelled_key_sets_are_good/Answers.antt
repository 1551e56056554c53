use Rattle.co_wire.proofs.Good_bodies.{good-keys}
use Rattle.co_wire.proofs.laws.spelled_key_sets_are_good.Goals as goal

pub returns : goal.returns
returns c = good-keys
