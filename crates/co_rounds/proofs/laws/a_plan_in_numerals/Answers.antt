use Rattle.std.proofs.Common.{refl}
use Rattle.co_math.specs.Logarithms.{least, log2_up}
use Rattle.co_noise.specs.Shapes.{keyword_blocks, levels}
use Rattle.co_rounds.proofs.laws.a_plan_in_numerals.Goals as goal

pub returns : goal.returns
unfolding keyword_blocks levels log2_up least
returns c = refl
