use Rattle.std.proofs.Common.{◌≡◌, map, take}
use Rattle.co_bfv.specs.Encryptions.{delta}
use Rattle.co_bfv.proofs.encryption.scale.Given as goal

abbrev pub invariant-loop-k : goal.invariant-loop-k
invariant-loop-k l = l.scaled.items ≡ map delta (take l.k l.message.coeffs)
