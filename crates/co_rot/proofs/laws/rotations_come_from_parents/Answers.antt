use Rattle.co_rot.proofs.Turning.{rotation-zero}
use Rattle.co_rot.proofs.Lawful.{from_parent}
use Rattle.co_rot.proofs.laws.rotations_come_from_parents.Goals as goal

pub returns-clause-none : goal.returns-clause-none
returns-clause-none c = rotation-zero

pub returns-clause-one : goal.returns-clause-one
returns-clause-one c = from_parent
