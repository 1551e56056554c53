-- The sums of both workers' units.
use Rattle.std.proofs.Common.{subst, sym, ◌++◌}
use Rattle.co_matvec.specs.Units.{Scored, IsPartOf}
use Rattle.co_matvec.proofs.Working.{both_parts}
use Rattle.co_matvec.proofs.scores.ScoringWorkSums.merge.Goals as goal

pub returns : goal.returns
returns g c us vs h k =
    subst (λ (s : Scored). IsPartOf s (us ++ vs) c.merge.new.self) c.self.view_is
    (both_parts (record { weights = c.self.inside.weights.now; keys = c.self.inside.keys.now; query = c.self.inside.query.now }) c.self.invariant.0 c.args.sum.now c.args.other c.merge.new.self c.merge.ensures.weights c.merge.ensures.sums us vs
    (subst (λ (s : Scored). IsPartOf s us c.args.sum.now) (sym c.self.view_is) h) (subst (λ (s : Scored). IsPartOf s vs c.args.other) (sym c.self.view_is) k))
