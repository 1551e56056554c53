-- Zeros are the sums of no unit.
use Rattle.std.proofs.Common.{subst, []}
use Rattle.co_pir.specs.Units.{Answered, AreHeldSums}
use Rattle.co_pir.proofs.Answering.{none_held}
use Rattle.co_pir.proofs.replying.AnsweringWorkVecCipher.none.Goals as goal

pub returns : goal.returns
returns g c =
    subst (λ (a : Answered). AreHeldSums a.table a.values [] c.in_ok-sums.sums.items) c.self.view_is
    (none_held c.self.inside.rows.now c.self.inside.values.now c.in_ok-sums.sums.items c.degree.ensures.table.degree c.in_ok-sums.ensures.count c.in_ok-sums.ensures.zeros)
