use Rattle.co_transform.proofs.Wide.{four_mod}
use Rattle.co_transform.proofs.sums.below_four.Goals as goal

pub returns : goal.returns
returns c = four_mod c.args.x c.less.result c.less-2.result c.args.q c.requires.below c.less.ensures.below c.less.ensures.above c.less-2.ensures.below c.less-2.ensures.above
