use Rattle.co_math.proofs.Digits.{digits_of-are, digits_unique}
use Rattle.co_math.proofs.laws.digits.Goals as goal

pub returns-clause-are : goal.returns-clause-are
returns-clause-are c = digits_of-are

pub returns-clause-only : goal.returns-clause-only
returns-clause-only c = digits_unique
