use Rattle.std.proofs.Common.{◌≡◌, map, take}
use Rattle.co_math.specs.Residues.{residue}
use Rattle.co_ring.specs.Moduli.{value_of}
use Rattle.co_bfv.proofs.signed.reduce_all.Given as goal

abbrev pub invariant-loop-k : goal.invariant-loop-k
invariant-loop-k l = l.coeffs.items ≡ map (residue (value_of l.modulus)) (take l.k l.values)
