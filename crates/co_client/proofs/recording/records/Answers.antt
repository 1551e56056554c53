use Rattle.std.proofs.Common.{◌≡◌, ℕ, ◌<◌, ◌*◌, ◌∙◌, sym, ap, subst, arith, List, length, map, Option, Some, None, Result}
use Rattle.std.specs.Prelude.{slice_index_or}
use Rattle.std.proofs.lemmas.Result.{err_from_is_err_and}
use Rattle.co_link.specs.declared.messages.Target.TheVariants.{Meta}
use Rattle.co_bucket.specs.Lists.{bucket_count}
use Rattle.co_bucket.specs.Bytes.{record_chunks, record_row}
use Rattle.co_pack.specs.declared.records.Record.{Record}
use Rattle.co_wire.specs.Bodies.{SpellsCiphers}
use Rattle.co_wire.specs.Lengths.{reply_size, reply_limit}
use Rattle.co_rounds.specs.Placing.{rows_asked}
use Rattle.co_client.specs.declared.fault.SearchFault.{SearchFault}
use Rattle.co_client.specs.Faults.{IsReadAs}
use Rattle.co_client.specs.Gathered.{with_bins, records_request}
use Rattle.co_client.specs.Placings.{shown_of, places_asked, HaveBuckets}
use Rattle.co_client.specs.Records.{records_read}
use Rattle.co_client.specs.Rounds.{Gives, RoundFails, queries_request, queries_rest, record_messages}
use Rattle.co_client.proofs.Spelled.{spelled-long}
use Rattle.co_client.proofs.Recorded.{Hits, Read, have-buckets, ranks-shown, asked-rows, round-fails, records-read, records-fail, link-fails, on-ok}
use Rattle.co_client.proofs.recording.records.Given.{Over}
use Rattle.co_client.proofs.recording.records.Goals.{After-as_slice-asked, In_ok-rows, After-read_records}
use Rattle.co_client.proofs.recording.records.Goals as goal

-- the rows of the places are those that are asked
rows-are : (g : Over) (c : After-as_slice-asked g)
    → map (record_row c.args.reader.now.shape.degree) c.as_slice-asked.result.now ≡ rows_asked c.args.reader.now.shape c.args.ranked.now.hits c.args.ranked.now.buckets
rows-are g c =
    let s = c.args.reader.now.shape in
    let ranked = c.args.ranked.now in
    let shape : c.shape-shape.result.now ≡ s = c.shape-shape.ensures.value ∙ c.tested.ensures in
    asked-rows s ranked.hits ranked.buckets ranked.refused c.as_slice-asked.result.now c.requires.placed
    (c.as_slice-asked.ensures.value ∙ c.in-Ok.ensures.value ∙ (λ t. places_asked (shape t) (c.shown-hits.ensures t) (c.as_slice-placed.ensures t)))

-- the replies came
gives : (g : Over) (c : In_ok-rows g)
    → map (record_row c.args.reader.now.shape.degree) c.as_slice-asked.result.now ≡ rows_asked c.args.reader.now.shape c.args.ranked.now.hits c.args.ranked.now.buckets
    → Gives c.args.reader.now.shape.degree (bucket_count c.args.reader.now.shape.hits * record_chunks c.args.reader.now.shape.degree) (g.K.Link.exchanges c.args.link.now) (g.K.Link.exchanges c.gather.new.link)
    (records_request c.args.reader.now c.args.ranked.now (g.R.Rng.stream c.args.rng.now)) c.in_ok-rows.rows
gives g c rows =
    let reader = c.args.reader.now in
    let s = reader.shape in
    subst (λ (rs : List ℕ). Gives s.degree (bucket_count s.hits * record_chunks s.degree) (g.K.Link.exchanges c.args.link.now) (g.K.Link.exchanges c.gather.new.link)
    (queries_request Meta reader.secret (record_messages s rs) (g.R.Rng.stream c.args.rng.now)) c.in_ok-rows.rows) rows c.in_ok-rows.ensures.came

-- and what is read of them
read : (g : Over) (c : After-read_records g) → Read c.args.reader.now c.args.ranked.now c.args.bins c.in_ok-rows.rows c.read_records.result
read g c = λ cs all spelled.
    let reader = c.args.reader.now in
    subst (λ (w : Result (List Record) SearchFault). IsReadAs c.read_records.result w) (λ t. records_read (with_bins reader.shape c.args.bins) reader.secret cs (c.as_slice-placed.ensures t) 0 (c.shown-hits.ensures t))
    (c.read_records.ensures.read cs all (subst (λ (b : List ℕ). SpellsCiphers reader.shape.degree all cs b) (sym c.as_slice.ensures) spelled))

pub places-requires-clause-ranks : goal.places-requires-clause-ranks
places-requires-clause-ranks g c = λ b r e.
    let ranked = c.args.ranked.now in
    let there = subst (λ (xs : List (Option ℕ)). slice_index_or xs b None ≡ Some r) c.as_slice-placed.ensures e in
    subst (λ (hs : Hits). r < length hs) (sym c.shown-hits.ensures) (ranks-shown c.args.reader.now.shape ranked.hits ranked.buckets ranked.refused c.requires.placed b r there)

pub returns-in_err-rows-clause-refused : goal.returns-in_err-rows-clause-refused
returns-in_err-rows-clause-refused g c =
    let reader = c.args.reader.now in
    let was = g.K.Link.exchanges c.args.link.now in
    let now = g.K.Link.exchanges c.gather.new.link in
    let stream = g.R.Rng.stream c.args.rng.now in
    let rows = rows-are g (goal.at.returns-in_err-rows-clause-refused g c).After-as_slice-asked in
    let p = err_from_is_err_and c.from_residual.result c.from_residual.ensures.1 in
    rw (p.1, p.2)
    (round-fails reader c.args.ranked.now c.args.bins was now stream c.in_err-rows.field-0.0
    (subst (λ (rs : List ℕ). RoundFails (reply_size reader.shape Meta) was now (queries_request Meta reader.secret (record_messages reader.shape rs) stream) c.in_err-rows.field-0.0) rows c.in_err-rows.ensures.refused))

pub read_records-requires-clause-whole : goal.read_records-requires-clause-whole
read_records-requires-clause-whole g c =
    let s = c.args.reader.now.shape in
    let spelled = c.in_ok-rows.ensures.came.spelled in
    omega (arith, ap (λ (b : List ℕ). length b) c.as_slice.ensures, spelled-long s.degree (bucket_count s.hits * record_chunks s.degree) spelled.ciphers c.in_ok-rows.rows spelled.spelled)

pub read_records-requires-clause-placed : goal.read_records-requires-clause-placed
read_records-requires-clause-placed g c =
    let ranked = c.args.ranked.now in
    let s = c.args.reader.now.shape in
    subst (λ (hs : Hits). HaveBuckets s hs c.as_slice-placed.result.now) (sym c.shown-hits.ensures)
    (subst (λ (xs : List (Option ℕ)). HaveBuckets s (shown_of ranked.refused ranked.hits) xs) (sym c.as_slice-placed.ensures) (have-buckets s ranked.hits ranked.buckets ranked.refused c.requires.placed))

pub returns-clause-read : goal.returns-clause-read
returns-clause-read g c =
    let at = goal.at.returns-clause-read g c in
    records-read c.args.reader.now c.args.ranked.now c.args.bins _ _ _ _ (gives g at.In_ok-rows (rows-are g at.After-as_slice-asked)) c.read_records.result (read g at.After-read_records)

pub returns-clause-rest : goal.returns-clause-rest
returns-clause-rest g c =
    let reader = c.args.reader.now in
    let rows = rows-are g (goal.at.returns-clause-rest g c).After-as_slice-asked in
    on-ok c.read_records.result (c.in_ok-rows.ensures.rest ∙ ap (λ (rs : List ℕ). queries_rest reader.secret (record_messages reader.shape rs) (g.R.Rng.stream c.args.rng.now)) rows)

pub returns-clause-refused : goal.returns-clause-refused
returns-clause-refused g c =
    let at = goal.at.returns-clause-refused g c in
    records-fail c.args.reader.now c.args.ranked.now c.args.bins _ _ _ _ (gives g at.In_ok-rows (rows-are g at.After-as_slice-asked)) c.read_records.result (read g at.After-read_records)

pub returns-clause-cause : goal.returns-clause-cause
returns-clause-cause g c =
    let at = goal.at.returns-clause-cause g c in
    link-fails c.args.reader.now c.args.ranked.now c.args.bins _ _ _ _ (gives g at.In_ok-rows (rows-are g at.After-as_slice-asked)) _ _ _ (record { target = Meta; limit = reply_limit c.args.reader.now.shape Meta }) c.read_records.result c.gather.ensures.cause.later
    (read g at.After-read_records)
