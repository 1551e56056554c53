use Rattle.co_rot.proofs.Lawful.{turns}
use Rattle.co_rot.proofs.laws.rotations_turn_slots.Goals as goal

pub returns : goal.returns
returns c = turns
