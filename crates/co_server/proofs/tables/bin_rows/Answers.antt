use Rattle.std.proofs.Common.{◌≡◌, ◌∙◌, ap, subst}
use Rattle.co_noise.specs.Shapes.{Numbers}
use Rattle.co_noise.specs.Bounds.{HasRoom}
use Rattle.co_rounds.specs.Serving.{bin_table}
use Rattle.co_rounds.proofs.Retrievable.{is-bin_table}
use Rattle.co_server.proofs.Bucketed.{IsRoomy, is_roomy}
use Rattle.co_server.proofs.tables.bin_rows.Goals as goal

roomy : (c : goal.After-bins-2) → IsRoomy c.of-degree.result c.bins.result c.chunks.result c.bins-2.result.now
roomy c =
    let l = c.args.library.now in
    let shape : c.shape-shape.result.now ≡ l.shape = c.shape-shape.ensures.value ∙ c.requires in
    is_roomy (bin_table l) (is-bin_table l c.shape.ensures.library (subst HasRoom c.requires c.shape-shape.ensures.room)) c.of-degree.result c.bins.result c.chunks.result c.bins-2.result.now
    (c.of-degree.ensures ∙ c.degree.ensures.value ∙ ap (λ (s : Numbers). s.degree) shape) (c.bins.ensures ∙ ap (λ (s : Numbers). s.bins) shape) (c.chunks.ensures ∙ ap (λ (s : Numbers). s.chunks) shape) c.bins-2.ensures

pub new-requires-clause-some : goal.new-requires-clause-some
new-requires-clause-some c = (roomy c).some

pub new-requires-clause-few : goal.new-requires-clause-few
new-requires-clause-few c = (roomy c).few

pub new-requires-clause-whole : goal.new-requires-clause-whole
new-requires-clause-whole c = (roomy c).whole
