use Rattle.std.proofs.Common.{arith, ⊎_elim}
use Rattle.std.proofs.lemmas.Bool.{cases_lt}
use Rattle.std.proofs.lemmas.List.{get_or_past}
use Rattle.co_transform.proofs.sums.clear.Goals as goal

pub returns-clause-zeros : goal.returns-clause-zeros
returns-clause-zeros c = λ k. ⊎_elim (λ u. omega (arith, c.loop-i.invariant.done k u)) (λ u. omega (arith, get_or_past c.loop-i.sums k 0 (omega (arith, u)))) (cases_lt k c.loop-i.i)
