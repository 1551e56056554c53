-- The chunks times the pieces.
use Rattle.std.proofs.Common.{◌*◌, ap, ◌∙◌, arith}
use Rattle.co_pir.specs.Tables.{Table}
use Rattle.co_pir.specs.Units.{pieces}
use Rattle.co_pir.proofs.Answering.{units_fit}
use Rattle.co_pir.proofs.contents.Contents.units.Goals as goal

pub returns-clause-value : goal.returns-clause-value
returns-clause-value c = (λ t. c.self.inside.chunks * c.pieces.ensures.value t) ∙ ap (λ (t : Table). t.chunks * pieces c.args.self.now) c.self.view_is

pub returns-clause-few : goal.returns-clause-few
returns-clause-few c = let h = units_fit c.self.inside.chunks c.pieces.result c.self.invariant.1 c.pieces.ensures.few in omega (arith, h)
