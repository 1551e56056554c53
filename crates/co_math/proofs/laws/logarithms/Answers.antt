use Rattle.co_math.proofs.Logarithms.{log2_up-is, logarithm_unique}
use Rattle.co_math.proofs.laws.logarithms.Goals as goal

pub returns-clause-is : goal.returns-clause-is
returns-clause-is c = log2_up-is

pub returns-clause-only : goal.returns-clause-only
returns-clause-only c = logarithm_unique
