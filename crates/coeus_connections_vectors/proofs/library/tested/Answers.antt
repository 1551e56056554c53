use Rattle.std.proofs.Common.{◌∙◌, sym}
use Rattle.co_noise.proofs.Room.{test_of-same}
use Rattle.coeus_connections_vectors.proofs.library.tested.Goals as goal

pub returns : goal.returns
returns c = test_of-same c.args.shape.now c.in-Ok.tested (sym c.test.ensures ∙ c.in-Ok.is)
