use Rattle.std.proofs.Common.{rules, ◌≡◌, ◌<◌, ◌∙◌, ap, arith}
use Rattle.co_noise.specs.Shapes.{document_blocks}
use Rattle.co_client.proofs.Scores.{none-scored, one-scored, all-scored}
use Rattle.co_client.proofs.scoring.read_scores.Goals as goal

pub loop-block-init : goal.loop-block-init
loop-block-init c = record {
  slots_degree = search rules;
  scratch_modulus = search rules;
  scratch_degree = search rules;
  scored = none-scored c.args.reader.now.shape c.args.reader.now.secret c.args.body.now c.in_ok-scores.scores.items c.in_ok-scores.ensures.items;
}

pub loop-block-preserved : goal.loop-block-preserved
loop-block-preserved c =
    let s = c.args.reader.now.shape in
    let positive : 0 < s.degree = grind (arith, c.degree-size.ensures.ranges.degree_low) in
    record {
      slots_degree = search rules;
      scratch_modulus = search rules;
      scratch_degree = search rules;
      scored = λ cs spelled. one-scored s c.args.reader.now.secret cs c.loop-block.block c.read_slots.new.slots c.loop-block.scores.items c.add_scores.new.scores.items positive (search rules)
          (λ p l. c.in_ok-read_slots.ensures.slots cs (document_blocks s) spelled p (grind arith)) (c.loop-block.invariant.scored cs spelled) (grind (arith, c.in_ok-add_scores.ensures));
    }

pub returns : goal.returns
returns c = λ cs spelled.
    let s = c.args.reader.now.shape in
    let positive : 0 < s.degree = grind (arith, c.degree-size.ensures.ranges.degree_low) in
    let count : c.document_blocks-blocks.result ≡ document_blocks s = c.document_blocks-blocks.ensures ∙ ap document_blocks (c.shape-shape.ensures.value ∙ c.tested.ensures) in
    c.loop-block.invariant.scored cs spelled ∙ all-scored s c.args.reader.now.secret cs c.loop-block.block positive (omega (arith, count))
