use Rattle.std.proofs.Common.{◌≡◌, map, take}
use Rattle.co_bfv.specs.Encryptions.{opened}
use Rattle.co_bfv.proofs.encryption.open.Given as goal

abbrev pub invariant-loop-k : goal.invariant-loop-k
invariant-loop-k l = l.message.items ≡ map opened (take l.k l.phase)
