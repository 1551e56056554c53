use Rattle.co_wire.proofs.Ciphered.{AreRead}
use Rattle.co_wire.proofs.bodies.read_each.Given as goal

abbrev pub invariant-loop-i : goal.invariant-loop-i
invariant-loop-i l = AreRead l.fn.degree l.body l.i l.at l.ciphers.items
