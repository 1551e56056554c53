use Rattle.std.proofs.Common.{arith}
use Rattle.co_library.proofs.publishing.are_bytes.Goals as goal

pub returns : goal.returns
returns c = λ i within. omega (arith, c.type_inv.bytes i)
