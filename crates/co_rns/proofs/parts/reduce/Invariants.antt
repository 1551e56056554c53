use Rattle.std.proofs.Common.{◌%◌, get_or}
use Rattle.co_rns.proofs.Parting.{AreNumbers}
use Rattle.co_rns.proofs.parts.reduce.Given as goal

abbrev pub invariant-loop-k : goal.invariant-loop-k
invariant-loop-k l = AreNumbers (λ j. get_or l.coeffs j 0 % l.m) l.k l.residues.items
