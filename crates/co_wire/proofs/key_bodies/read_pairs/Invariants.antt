use Rattle.co_wire.specs.Parts.{AreReadPairs}
use Rattle.co_wire.proofs.key_bodies.read_pairs.Given as goal

abbrev pub invariant-loop-index : goal.invariant-loop-index
invariant-loop-index l = AreReadPairs l.fn.degree l.fn.from l.index l.at l.k0.items l.k1.items l.body
