use Rattle.std.proofs.Common.{refl}
use Rattle.co_bfv.specs.Encryptions.{delta}
use Rattle.co_bfv.proofs.encryption.scale_one.Goals as goal

pub returns-clause-value : goal.returns-clause-value
unfolding delta
returns-clause-value c = refl
