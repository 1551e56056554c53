use Rattle.std.proofs.Common.{get_or, pos}
use Rattle.co_math.specs.Residues.{residue}
use Rattle.co_math.specs.Meanings.{centred}
use Rattle.co_math.specs.Parameters.{plain_modulus}
use Rattle.co_rns.proofs.Parting.{AreNumbers}
use Rattle.co_rns.proofs.parts.centred.Given as goal

abbrev pub invariant-loop-k : goal.invariant-loop-k
invariant-loop-k l = AreNumbers (λ j. residue l.m (centred plain_modulus (pos (get_or l.plain.coeffs j 0)))) l.k l.residues.items
