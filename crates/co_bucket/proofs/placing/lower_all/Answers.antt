-- Goals of `lower_all` that the check left open.
use Rattle.co_bucket.proofs.Narrowing.{narrowed_more}
use Rattle.co_bucket.proofs.placing.lower_all.Goals as goal

pub loop-item-preserved : goal.loop-item-preserved
loop-item-preserved c =
    narrowed_more _ _ _ _ c.loop-item.invariant c.loop-item-test.true _ _ c.in_ok-choices.ensures.changed c.in_ok-choices.ensures.placed c.in_ok-choices.ensures.least
