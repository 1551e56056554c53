use Rattle.co_switch.specs.Keys.{expansion_element}
use Rattle.co_wire.specs.Parts.{AreReadKeys}
use Rattle.co_wire.proofs.key_bodies.read_expansions.Given as goal

abbrev pub invariant-loop-j : goal.invariant-loop-j
invariant-loop-j l = AreReadKeys l.fn.degree (expansion_element l.fn.degree) l.fn.from l.j l.at l.keys.items l.body
