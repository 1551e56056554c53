-- Goals of `bin_size` that the check left open.
use Rattle.std.proofs.Common.{arith}
use Rattle.co_pack.proofs.Sizes.{sized}
use Rattle.co_pack.proofs.packing.bin_size.Goals as goal

pub returns : goal.returns
returns c = sized c.args.longest c.args.degree c.args.chunks c.max-pieces.result c.div_ceil.result (omega arith) c.div_ceil.ensures c.max-pieces.ensures
