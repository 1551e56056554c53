use Rattle.co_rounds.proofs.Retrievable.{bin_opened}
use Rattle.co_rounds.proofs.laws.bins_open.Goals as goal

pub returns : goal.returns
returns c = bin_opened
