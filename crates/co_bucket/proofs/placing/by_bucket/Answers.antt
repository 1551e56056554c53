-- Goals of `by_bucket` that the check left open.
use Rattle.std.proofs.Common.{◌≡◌, subst, length-set, ◌∙◌, arith}
use Rattle.co_bucket.specs.Placement.{IsInverse}
use Rattle.co_bucket.proofs.Narrowing.{inverse_more}
use Rattle.co_bucket.proofs.placing.by_bucket.Goals as goal

pub loop-item-preserved : goal.loop-item-preserved
loop-item-preserved c = (
  length-set c.loop-item.placed.items _ _ ∙ c.loop-item.invariant.0,
  inverse_more c.loop-item.item c.args.buckets c.args.choices.now c.loop-item.placed.items c.loop-item.invariant.0 c.loop-item.invariant.1
      (c.requires.within c.loop-item.item c.loop-item-test.true) (λ j below. c.requires.apart j c.loop-item.item below c.loop-item-test.true),
)

pub returns-clause-inverse : goal.returns-clause-inverse
returns-clause-inverse c =
    let is : c.loop-item.item ≡ c.args.count = omega arith in
    subst (λ n. IsInverse n c.args.choices.now c.loop-item.placed.items) is c.loop-item.invariant.1
