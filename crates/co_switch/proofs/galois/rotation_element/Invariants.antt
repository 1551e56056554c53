use Rattle.std.proofs.Common.{◌≡◌}
use Rattle.co_switch.specs.Keys.{rotation_element}
use Rattle.co_switch.proofs.galois.rotation_element.Given as goal

abbrev pub invariant-loop-index : goal.invariant-loop-index
invariant-loop-index l = l.element ≡ rotation_element l.degree l.index
