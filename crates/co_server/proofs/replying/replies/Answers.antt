use Rattle.std.proofs.Common.{◌≤◌, sym, subst, ap, ◌∙◌, length}
use Rattle.co_link.specs.declared.messages.Target.{Target}
use Rattle.co_noise.specs.Shapes.{log2_up}
use Rattle.co_matvec.specs.Weights.{WeightMatrix, keyword_blocks}
use Rattle.co_pir.specs.Tables.{Table}
use Rattle.co_server.specs.Queries.{query_count}
use Rattle.co_server.proofs.Levels.{bins-keys, blocks-of}
use Rattle.co_server.proofs.replying.replies.Goals as goal

pub score-requires-clause-blocks : goal.score-requires-clause-blocks
score-requires-clause-blocks g c κs within =
    c.requires.queries.count_is ∙ ap (λ (target : Target). query_count c.args.loaded.now.shape target) c.in-Score.is ∙ sym (blocks-of c.args.loaded.now) ∙ sym (ap (λ (w : WeightMatrix). keyword_blocks w) c.weights-weights.ensures)

pub answer-requires-clause-enough_keys : goal.answer-requires-clause-enough_keys
answer-requires-clause-enough_keys g c κs within =
    subst (λ (t : Table). log2_up t.rows ≤ length c.args.keys.now.expansions) (sym c.bins.ensures) (bins-keys c.args.loaded.now.shape c.args.keys.now c.requires.keys)
