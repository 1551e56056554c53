-- The visitor keeps its degree.
use Rattle.std.proofs.Common.{◌≡◌}
use Rattle.co_switch.specs.Keys.{keys_degree}
use Rattle.coeus_vectors.proofs.rot.walk_all.Given as goal

abbrev pub invariant-loop-r : goal.invariant-loop-r
invariant-loop-r g l = g.V.Visitor.degree l.visitor ≡ keys_degree l.keys
