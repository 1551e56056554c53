use Rattle.co_wire.proofs.Sizes.{public_few}
use Rattle.co_wire.proofs.laws.public_bytes_are_few.Goals as goal

pub returns : goal.returns
returns c = public_few
