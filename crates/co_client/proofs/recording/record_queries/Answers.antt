use Rattle.std.proofs.Common.{◌≡◌, ℕ, ◌∙◌, subst, refl, arith, List, get_or, take, map}
use Rattle.std.proofs.lemmas.List.{take_all}
use Rattle.co_bucket.specs.Bytes.{record_row}
use Rattle.co_rounds.specs.Asked.{row_message}
use Rattle.co_client.specs.Rounds.{record_messages}
use Rattle.co_client.proofs.Drawn.{IsDrawn, none-drawn, one-drawn, rows-more}
use Rattle.co_client.proofs.recording.record_queries.Goals as goal

pub loop-place-init : goal.loop-place-init
loop-place-init g c = none-drawn c.args.reader.now.secret (g.R.Rng.stream c.args.rng.now) c.in_ok-body.body.items (g.R.Rng.stream c.args.rng.now) c.in_ok-body.ensures.items refl

pub loop-place-preserved : goal.loop-place-preserved
loop-place-preserved g c =
    let s = c.args.reader.now.shape in
    let secret = c.args.reader.now.secret in
    let i = c.loop-place.place-index in
    let places = c.args.places.now in
    let message = row_message s.degree s.rows (record_row s.degree (get_or places i 0)) in
    subst (λ (ms : List (List ℕ)). IsDrawn secret ms (g.R.Rng.stream c.args.rng.now) c.put_row.new.body.items (g.R.Rng.stream c.put_row.new.rng)) (rows-more s places i c.loop-place-test.true)
    (one-drawn secret (record_messages s (map (record_row s.degree) (take i places))) message (g.R.Rng.stream c.args.rng.now) c.loop-place.body.items c.put_row.new.body.items (g.R.Rng.stream c.loop-place.rng) (g.R.Rng.stream c.put_row.new.rng) c.loop-place.invariant
    (grind (arith, c.in_ok-put_row.ensures.spelled)) (grind (arith, c.in_ok-put_row.ensures.rest)))

pub returns-clause-body : goal.returns-clause-body
returns-clause-body g c =
    let s = c.args.reader.now.shape in
    let all : take c.loop-place.place-index c.args.places.now ≡ c.args.places.now = take_all c.loop-place.place-index c.args.places.now (omega arith) in
    c.from_vec.ensures ∙ (subst (λ (ps : List ℕ). IsDrawn c.args.reader.now.secret (record_messages s (map (record_row s.degree) ps)) (g.R.Rng.stream c.args.rng.now) c.loop-place.body.items (g.R.Rng.stream c.loop-place.rng)) all c.loop-place.invariant).spelled

pub returns-clause-rest : goal.returns-clause-rest
returns-clause-rest g c =
    let s = c.args.reader.now.shape in
    let all : take c.loop-place.place-index c.args.places.now ≡ c.args.places.now = take_all c.loop-place.place-index c.args.places.now (omega arith) in
    (subst (λ (ps : List ℕ). IsDrawn c.args.reader.now.secret (record_messages s (map (record_row s.degree) ps)) (g.R.Rng.stream c.args.rng.now) c.loop-place.body.items (g.R.Rng.stream c.loop-place.rng)) all c.loop-place.invariant).left
