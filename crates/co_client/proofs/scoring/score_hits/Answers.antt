use Rattle.std.proofs.Common.{◌≡◌, ℕ, ◌∙◌, refl, sym, ap, subst, arith, List, length}
use Rattle.std.proofs.lemmas.Result.{err_from_is_err_and}
use Rattle.co_link.specs.declared.messages.Target.TheVariants.{Score}
use Rattle.co_noise.specs.Shapes.{Numbers, HasRanges, document_blocks}
use Rattle.co_bfv.specs.Ciphertexts.{Ciphertext}
use Rattle.co_text.specs.Ranking.{ranking}
use Rattle.co_wire.specs.Bodies.{SpellsCiphers}
use Rattle.co_wire.specs.Lengths.{reply_size}
use Rattle.co_rounds.specs.Answers.{reply_with}
use Rattle.co_rounds.specs.Scoring.{scores_read}
use Rattle.co_client.specs.Openings.{AreSpelled}
use Rattle.co_client.specs.Rounds.{Comes, RoundFails, queries_request}
use Rattle.co_client.proofs.Score_round.{memory-round, spelled-same, ranking-few, scores-whole, scores-long, scores-rank}
use Rattle.co_client.proofs.scoring.score_hits.Goals as goal

pub returns-in_err-body-clause-refused : goal.returns-in_err-body-clause-refused
unfolding queries_request
returns-in_err-body-clause-refused g c =
    let p = err_from_is_err_and c.from_residual.result c.from_residual.ensures.1 in
    rw (p.1, p.2)
    (λ messages are.
    subst (λ (b : List ℕ). RoundFails (reply_size c.args.reader.now.shape Score) (g.K.Link.exchanges c.args.link.now) (g.K.Link.exchanges c.ask_ciphers.new.link) (record { target = Score; body = b }) c.in_err-body.field-0.0) (c.in-Ok.ensures.body messages are) c.in_err-body.ensures.refused)

pub read_scores-requires : goal.read_scores-requires
read_scores-requires g c =
    let s = c.args.reader.now.shape in
    let count : c.document_blocks-blocks.result ≡ document_blocks s = c.document_blocks-blocks.ensures ∙ ap document_blocks (c.shape-shape.ensures.value ∙ c.tested.ensures) in
    scores-whole s c.args.reader.now.secret c.as_slice.result.now
    (spelled-same s.degree s.degree c.document_blocks-blocks.result (document_blocks s) c.in_ok-body.body c.as_slice.result.now refl count (sym c.as_slice.ensures) c.in_ok-body.ensures.came.spelled)

pub returns-in_default-read_scores-clause-refused : goal.returns-in_default-read_scores-clause-refused
unfolding queries_request
returns-in_default-read_scores-clause-refused g c = λ messages are.
    let was = g.K.Link.exchanges c.args.link.now in
    let now = g.K.Link.exchanges c.ask_ciphers.new.link in
    let comes = subst (λ (b : List ℕ). Comes was now (record { target = Score; body = b }) (reply_with 200 c.in_ok-body.body)) (c.in-Ok.ensures.body messages are) c.in_ok-body.ensures.came.comes in
    memory-round 0 was now (queries_request Score c.args.reader.now.secret messages (g.R.Rng.stream c.args.rng.now)) c.in_ok-body.body comes

pub ranking-requires : goal.ranking-requires
ranking-requires g c =
    let s = c.args.reader.now.shape in
    let shape : c.shape-shape.result.now ≡ s = c.shape-shape.ensures.value ∙ c.tested.ensures in
    let count : c.document_blocks-blocks.result ≡ document_blocks s = c.document_blocks-blocks.ensures ∙ ap document_blocks shape in
    let spelled = spelled-same s.degree s.degree c.document_blocks-blocks.result (document_blocks s) c.in_ok-body.body c.as_slice.result.now refl count (sym c.as_slice.ensures) c.in_ok-body.ensures.came.spelled in
    let long = scores-long s c.args.reader.now.secret c.as_slice.result.now spelled c.in-Ok-read_scores.scores.items c.in-Ok-read_scores.ensures in
    let few = (subst (λ (x : Numbers). HasRanges x) shape c.degree.ensures.ranges).documents_high in
    omega (arith, ap length c.deref.ensures.value, long, few)

pub returns-in-Ok-ranking-clause-ranked : goal.returns-in-Ok-ranking-clause-ranked
unfolding queries_request
returns-in-Ok-ranking-clause-ranked g c = λ messages are.
    let s = c.args.reader.now.shape in
    let secret = c.args.reader.now.secret in
    let was = g.K.Link.exchanges c.args.link.now in
    let now = g.K.Link.exchanges c.ask_ciphers.new.link in
    let came = c.in_ok-body.ensures.came in
    let comes = subst (λ (b : List ℕ). Comes was now (record { target = Score; body = b }) (reply_with 200 c.in_ok-body.body)) (c.in-Ok.ensures.body messages are) came.comes in
    let shape : c.shape-shape.result.now ≡ s = c.shape-shape.ensures.value ∙ c.tested.ensures in
    let count : c.document_blocks-blocks.result ≡ document_blocks s = c.document_blocks-blocks.ensures ∙ ap document_blocks shape in
    let spelled = subst (λ (k : ℕ). AreSpelled s.degree k c.in_ok-body.body) count came.spelled in
    let read : (cs : List Ciphertext) → SpellsCiphers s.degree (document_blocks s) cs c.in_ok-body.body → c.in-Ok-read_scores.scores.items ≡ scores_read s secret cs =
    λ cs sp. c.in-Ok-read_scores.ensures cs (subst (λ (b : List ℕ). SpellsCiphers s.degree (document_blocks s) cs b) (sym c.as_slice.ensures) sp) in
    let most : c.hits.result ≡ s.hits = c.hits.ensures ∙ ap (λ (x : Numbers). x.hits) shape in
    scores-rank s secret c.in_ok-body.body spelled c.in-Ok-read_scores.scores.items read was now (queries_request Score secret messages (g.R.Rng.stream c.args.rng.now)) c.in-Ok-ranking.hits comes
    (c.in-Ok-ranking.ensures ∙ (λ t. ranking (most t) (c.deref.ensures.value t)))

pub returns-in-Ok-ranking-clause-few : goal.returns-in-Ok-ranking-clause-few
returns-in-Ok-ranking-clause-few g c =
    let most : c.hits.result ≡ c.args.reader.now.shape.hits = c.hits.ensures ∙ ap (λ (x : Numbers). x.hits) (c.shape-shape.ensures.value ∙ c.tested.ensures) in
    omega (arith, ap length c.in-Ok-ranking.ensures, ranking-few c.hits.result c.deref.result.now, most)

pub returns-clause-refused : goal.returns-clause-refused
unfolding queries_request
returns-clause-refused g c = λ messages are.
    let was = g.K.Link.exchanges c.args.link.now in
    let now = g.K.Link.exchanges c.ask_ciphers.new.link in
    let comes = subst (λ (b : List ℕ). Comes was now (record { target = Score; body = b }) (reply_with 200 c.in_ok-body.body)) (c.in-Ok.ensures.body messages are) c.in_ok-body.ensures.came.comes in
    memory-round 0 was now (queries_request Score c.args.reader.now.secret messages (g.R.Rng.stream c.args.rng.now)) c.in_ok-body.body comes
