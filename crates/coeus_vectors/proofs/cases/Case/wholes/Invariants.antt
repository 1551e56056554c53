use Rattle.co_math.specs.Coefficients.{AreBelow}
use Rattle.co_math.specs.Parameters.{q}
use Rattle.coeus_vectors.proofs.cases.Case.wholes.Given as goal

abbrev pub invariant-loop-word : goal.invariant-loop-word
invariant-loop-word l = AreBelow q l.all.items
