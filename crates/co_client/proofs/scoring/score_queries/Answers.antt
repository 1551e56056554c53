use Rattle.std.proofs.Common.{rules, ◌≡◌, ℕ, ◌∙◌, ap, subst, refl, arith}
use Rattle.co_noise.specs.Shapes.{keyword_blocks}
use Rattle.co_matvec.specs.Replies.{HasSlots}
use Rattle.co_matvec.specs.Weights.{keyword_slot}
use Rattle.co_client.proofs.Drawn.{none-asked, one-asked, all-asked}
use Rattle.co_client.proofs.scoring.score_queries.Goals as goal

pub loop-block-init : goal.loop-block-init
loop-block-init g c = record {
  slots_degree = search rules;
  scratch_modulus = search rules;
  scratch_degree = search rules;
  message_modulus = search rules;
  message_degree = search rules;
  asked = none-asked c.args.reader.now.shape c.args.reader.now.secret c.args.keywords.now (g.R.Rng.stream c.args.rng.now) c.in_ok-body.body.items (g.R.Rng.stream c.args.rng.now) c.in_ok-body.ensures.items refl;
}

pub loop-block-preserved : goal.loop-block-preserved
loop-block-preserved g c =
    let s = c.args.reader.now.shape in
    let count : c.keyword_blocks-blocks.result ≡ keyword_blocks s = c.keyword_blocks-blocks.ensures.value ∙ ap keyword_blocks (c.shape-shape.ensures.value ∙ c.tested.ensures) in
    let table : c.in_ok-table.table ≡ s.degree = grind (arith, c.in_ok-table.ensures) in
    let slots : HasSlots s.degree (keyword_slot s.degree c.args.keywords.now c.loop-block.block) c.write_keywords.new.message.coeffs =
    subst (λ (n : ℕ). HasSlots n (keyword_slot n c.args.keywords.now c.loop-block.block) c.write_keywords.new.message.coeffs) table c.write_keywords.ensures.spelled in
    record {
      slots_degree = search rules;
      scratch_modulus = search rules;
      scratch_degree = search rules;
      message_modulus = search rules;
      message_degree = search rules;
      asked = one-asked s c.args.reader.now.secret c.args.keywords.now c.loop-block.block c.write_keywords.new.message.coeffs (g.R.Rng.stream c.args.rng.now) c.loop-block.body.items c.put_query.new.body.items (g.R.Rng.stream c.loop-block.rng) (g.R.Rng.stream c.put_query.new.rng)
          (grind (arith, c.degree-size.ensures.ranges.degree)) slots (λ messages are. omega (arith, are.count, count, c.loop-block-test.true)) c.loop-block.invariant.asked
          (grind (arith, c.in_ok-put_query.ensures.spelled)) (grind (arith, c.in_ok-put_query.ensures.rest));
    }

pub returns-clause-body : goal.returns-clause-body
returns-clause-body g c = λ messages are.
    let count : c.keyword_blocks-blocks.result ≡ keyword_blocks c.args.reader.now.shape = c.keyword_blocks-blocks.ensures.value ∙ ap keyword_blocks (c.shape-shape.ensures.value ∙ c.tested.ensures) in
    c.from_vec.ensures
    ∙ (all-asked c.args.reader.now.shape c.args.reader.now.secret c.args.keywords.now c.loop-block.block (g.R.Rng.stream c.args.rng.now) c.loop-block.body.items (g.R.Rng.stream c.loop-block.rng) c.loop-block.invariant.asked
    messages are (omega (arith, are.count, count))).spelled

pub returns-clause-rest : goal.returns-clause-rest
returns-clause-rest g c = λ messages are.
    let count : c.keyword_blocks-blocks.result ≡ keyword_blocks c.args.reader.now.shape = c.keyword_blocks-blocks.ensures.value ∙ ap keyword_blocks (c.shape-shape.ensures.value ∙ c.tested.ensures) in
    (all-asked c.args.reader.now.shape c.args.reader.now.secret c.args.keywords.now c.loop-block.block (g.R.Rng.stream c.args.rng.now) c.loop-block.body.items (g.R.Rng.stream c.loop-block.rng) c.loop-block.invariant.asked
    messages are (omega (arith, are.count, count))).left
