-- Zeros are the sums of no unit.
use Rattle.std.proofs.Common.{subst, []}
use Rattle.co_matvec.specs.Units.{Scored, IsPartOf}
use Rattle.co_matvec.proofs.Working.{none_part}
use Rattle.co_matvec.proofs.scores.ScoringWorkSums.none.Goals as goal

pub returns : goal.returns
returns g c =
    subst (λ (s : Scored). IsPartOf s [] c.in_ok-sums.sums) c.self.view_is
    (none_part (record { weights = c.self.inside.weights.now; keys = c.self.inside.keys.now; query = c.self.inside.query.now }) c.self.invariant.0 c.in_ok-sums.sums c.in_ok-sums.ensures.weights c.in_ok-sums.ensures.count c.in_ok-sums.ensures.empty)
