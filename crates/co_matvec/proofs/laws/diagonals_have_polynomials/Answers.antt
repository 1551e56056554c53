use Rattle.co_matvec.proofs.Existing.{diagonals_are}
use Rattle.co_matvec.proofs.laws.diagonals_have_polynomials.Goals as goal

pub returns : goal.returns
returns c = diagonals_are
