use Rattle.co_math.specs.Coefficients.{AreBelow}
use Rattle.co_ring.specs.Moduli.{value_of}
use Rattle.coeus_vectors.proofs.cases.Case.residues.Given as goal

abbrev pub invariant-loop-word : goal.invariant-loop-word
invariant-loop-word l = AreBelow (value_of l.modulus) l.all.items
