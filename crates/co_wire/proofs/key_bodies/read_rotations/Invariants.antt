use Rattle.std.proofs.Common.{◌≡◌}
use Rattle.co_switch.specs.Keys.{rotation_element}
use Rattle.co_wire.specs.Parts.{AreReadKeys}
use Rattle.co_wire.proofs.key_bodies.read_rotations.Given as goal

abbrev pub invariant-loop-b : goal.invariant-loop-b
invariant-loop-b l = AreReadKeys l.fn.degree (rotation_element l.fn.degree) 0 l.b l.at l.keys.items l.body × (l.element ≡ rotation_element l.fn.degree l.b)
