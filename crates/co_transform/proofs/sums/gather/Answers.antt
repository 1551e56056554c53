use Rattle.co_transform.proofs.Gatherings.{gathered_within}
use Rattle.co_transform.proofs.sums.gather.Goals as goal

pub returns-clause-within_after : goal.returns-clause-within_after
returns-clause-within_after c = gathered_within c.args.sums.now c.args.a.now c.args.b.now c.loop-i.sums _ c.args.count c.args.q c.loop-i.invariant c.requires.a_below c.requires.b_below c.requires.within
