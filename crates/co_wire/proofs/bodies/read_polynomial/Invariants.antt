use Rattle.co_wire.proofs.Filled.{ArePut}
use Rattle.co_wire.proofs.bodies.read_polynomial.Given as goal

abbrev pub invariant-loop-k : goal.invariant-loop-k
invariant-loop-k l = ArePut l.fn.degree l.body l.fn.from l.k l.first l.second
