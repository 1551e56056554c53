use Rattle.std.proofs.Common.{subst}
use Rattle.co_noise.specs.Bounds.{HasRoom}
use Rattle.co_noise.proofs.Room.{room}
use Rattle.co_noise.proofs.testing.Tested.shape.Goals as goal

pub returns-clause-room : goal.returns-clause-room
returns-clause-room c = subst HasRoom c.self.view_is (room _ c.self.invariant)
