use Rattle.std.proofs.Common.{refl}
use Rattle.co_bfv.specs.Encryptions.{opened}
use Rattle.co_bfv.proofs.encryption.open_one.Goals as goal

pub returns-clause-value : goal.returns-clause-value
unfolding opened
returns-clause-value c = refl
