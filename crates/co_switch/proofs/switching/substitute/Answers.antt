use Rattle.co_math.specs.Parameters.{q}
use Rattle.co_math.proofs.Substituting.{substituted_is}
use Rattle.co_switch.specs.Switches.{automorphism}
use Rattle.co_switch.proofs.switching.substitute.Goals as goal

pub returns : goal.returns
unfolding automorphism
returns c = substituted_is q c.args.element c.args.poly.now c.substitute.new.into c.degree.ensures.whole.degree c.requires.odd c.substitute.ensures
