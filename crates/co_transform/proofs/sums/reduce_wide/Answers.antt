use Rattle.std.proofs.Common.{◌/◌, ◌%◌, ◌^◌, ◌∙◌, refl}
use Rattle.co_transform.proofs.Wide.{wide_mod}
use Rattle.co_transform.proofs.sums.reduce_wide.Goals as goal

pub returns : goal.returns
returns c =
    c.below_four.ensures
    ∙ wide_mod c.args.x (c.args.x / 2 ^ 64) (c.args.x % 2 ^ 64) c.mul_shoup-high.result c.mul_shoup-low.result c.args.by.fold c.args.by.q refl refl c.requires.fold_is c.mul_shoup-high.ensures.congruent c.mul_shoup-low.ensures.congruent
