use Rattle.std.proofs.Common.{◌≡◌, ℕ, ◌<◌, ◌≤◌, refl, sym, ap, subst, ◌∙◌, arith, true, List, length}
use Rattle.std.specs.Prelude.{All}
use Rattle.std.proofs.lemmas.Result.{err_from_is_err_and}
use Rattle.co_text.specs.Terms.{terms}
use Rattle.co_text.specs.Numbers.{numbers_of, unknown_in}
use Rattle.co_pack.specs.declared.records.Record.{Record}
use Rattle.co_noise.specs.Shapes.{Numbers}
use Rattle.co_noise.proofs.Ranges.{ranges}
use Rattle.co_bucket.specs.Rows.{rows_of}
use Rattle.co_rounds.specs.Recording.{is_within_bins}
use Rattle.co_client.specs.Causes.{Search, search_by}
use Rattle.co_client.specs.Gathered.{with_bins}
use Rattle.co_client.specs.Records.{picked_record, bin_asked}
use Rattle.co_client.specs.Rounds.{ReaderState}
use Rattle.co_client.proofs.Chained.{terms-sorted}
use Rattle.co_client.proofs.Ends.{Begun, many-told}
use Rattle.co_client.proofs.Spelled.{spelled-long}
use Rattle.co_client.proofs.Conducted.{HasRanked, HasRead, begins, consult-told, start-told, rank-told, ranks, records-unread, has-read, fetch-told, fetches, shown-told, picked-within}
use Rattle.co_client.proofs.searching.conduct.Given.{Over}
use Rattle.co_client.proofs.searching.conduct.Goals.{In_ok-published, In_ok-ranked, After-bins-bins, In_ok-listed, After-bin_of-bin}
use Rattle.co_client.proofs.searching.conduct.Goals as goal

-- ---- what has come so far of a search that ends with this link

abbrev search-to : (g : Over) → List ℕ → ℕ → g.row.K.Denot → g.row.R.Denot → g.row.K.Denot → Search
search-to g query pick link rng end = search_by (terms query) pick (g.R.Rng.stream rng) (g.K.Link.faults link) (g.K.Link.faults end) (g.K.Link.last_failed end)

has-begun : (g : Over) (c : In_ok-published g) (end : g.row.K.Denot)
    → Begun (search-to g c.args.query.now c.args.pick c.args.link.now c.args.rng.now end) (g.K.Link.exchanges c.args.link.now) (g.K.Link.exchanges c.consult.new.link)
    c.in_ok-published.published.tested (numbers_of c.in_ok-published.published.terms c.in_ok-keywords.keywords) (unknown_in c.in_ok-published.published.terms c.in_ok-keywords.keywords)
has-begun g c end = begins _ _ _ c.in_ok-keywords.keywords c.in_ok-published.published c.in_ok-keywords.ensures.found c.in_ok-keywords.ensures.few c.in_ok-published.ensures.found

has-ranked : (g : Over) (c : In_ok-ranked g) (end : g.row.K.Denot)
    → Begun (search-to g c.args.query.now c.args.pick c.args.link.now c.args.rng.now end) (g.K.Link.exchanges c.args.link.now) (g.K.Link.exchanges c.consult.new.link)
    c.in_ok-published.published.tested (numbers_of c.in_ok-published.published.terms c.in_ok-keywords.keywords) (unknown_in c.in_ok-published.published.terms c.in_ok-keywords.keywords)
    → HasRanked (search-to g c.args.query.now c.args.pick c.args.link.now c.args.rng.now end) (g.K.Link.exchanges c.args.link.now) (g.K.Link.exchanges c.rank.new.link)
    c.in_ok-reader.reader c.in_ok-ranked.ranked (g.R.Rng.stream c.rank.new.rng)
has-ranked g c end begun =
    ranks _ _ _ _ _ _ _ _ c.in_ok-reader.reader _ begun c.in_ok-reader.ensures.came c.in_ok-reader.ensures.reader c.in_ok-reader.ensures.rest c.in_ok-ranked.ranked _
    c.in_ok-ranked.ensures.ranked c.in_ok-ranked.ensures.rest c.in_ok-ranked.ensures.few c.in_ok-ranked.ensures.unknown c.in_ok-ranked.ensures.placed

-- places are measured with the reader's bins
bins-are : (g : Over) (c : After-bins-bins g) → c.bins-bins.result ≡ c.in_ok-reader.reader.shape.bins
bins-are g c = c.bins-bins.ensures ∙ ap (λ (x : Numbers). x.bins) (c.shape.ensures.value ∙ c.tested.ensures)

within : (g : Over) (c : In_ok-listed g) → c.bins-bins.result ≡ c.in_ok-reader.reader.shape.bins → All (λ r. is_within_bins c.in_ok-reader.reader.shape r.place ≡ true) c.in_ok-listed.listed
within g c bins = subst (λ (k : ℕ). All (λ r. is_within_bins (with_bins c.in_ok-reader.reader.shape k) r.place ≡ true) c.in_ok-listed.listed) bins c.in_ok-listed.ensures.within

has-records : (g : Over) (c : In_ok-listed g) (end : g.row.K.Denot)
    → HasRanked (search-to g c.args.query.now c.args.pick c.args.link.now c.args.rng.now end) (g.K.Link.exchanges c.args.link.now) (g.K.Link.exchanges c.rank.new.link)
    c.in_ok-reader.reader c.in_ok-ranked.ranked (g.R.Rng.stream c.rank.new.rng)
    → c.bins-bins.result ≡ c.in_ok-reader.reader.shape.bins
    → HasRead (search-to g c.args.query.now c.args.pick c.args.link.now c.args.rng.now end) (g.K.Link.exchanges c.args.link.now) (g.K.Link.exchanges c.records.new.link)
    c.in_ok-reader.reader c.in_ok-ranked.ranked c.in_ok-listed.listed (g.R.Rng.stream c.records.new.rng)
has-records g c end ranked bins = has-read _ _ _ _ _ _ ranked _ c.bins-bins.result c.in_ok-listed.listed _ bins c.in_ok-listed.ensures.read c.in_ok-listed.ensures.rest

bin-is : (g : Over) (c : After-bin_of-bin g) → c.bin_of-bin.result ≡ bin_asked (picked_record c.in_ok-listed.listed c.args.pick)
bin-is g c = c.bin_of-bin.ensures ∙ ap (λ (rs : List Record). bin_asked (picked_record rs c.args.pick)) c.as_slice-read.ensures

-- ---- where it ends

pub returns-in_err-keywords-clause-told : goal.returns-in_err-keywords-clause-told
returns-in_err-keywords-clause-told g c =
    let p = err_from_is_err_and c.from_residual.result c.from_residual.ensures.1 in
    rw (p.1, p.2)
    (many-told (search-to g c.args.query.now c.args.pick c.args.link.now c.args.rng.now c.args.link.now) _ c.in_err-keywords.field-0.0 c.in_err-keywords.ensures.refused)

pub returns-in_err-keywords-clause-faults : goal.returns-in_err-keywords-clause-faults
returns-in_err-keywords-clause-faults g c = omega (arith)

pub returns-in_err-keywords-clause-ready : goal.returns-in_err-keywords-clause-ready
returns-in_err-keywords-clause-ready g c = c.requires.ready

pub returns-in_err-keywords-clause-beside : goal.returns-in_err-keywords-clause-beside
returns-in_err-keywords-clause-beside g c = refl

pub returns-in_err-published-clause-told : goal.returns-in_err-published-clause-told
returns-in_err-published-clause-told g c =
    let p = err_from_is_err_and c.from_residual-in_err-published.result c.from_residual-in_err-published.ensures.1 in
    rw (p.1, p.2)
    (consult-told _ _ _ c.in_ok-keywords.keywords c.in_err-published.field-0.0 _ c.in_ok-keywords.ensures.found c.in_ok-keywords.ensures.few c.in_err-published.ensures.refused c.in_err-published.ensures.cause)

pub returns-in_err-published-clause-faults : goal.returns-in_err-published-clause-faults
returns-in_err-published-clause-faults g c = c.consult.ensures.cause.later

pub returns-in_err-published-clause-ready : goal.returns-in_err-published-clause-ready
returns-in_err-published-clause-ready g c = c.consult.ensures.ready

pub returns-in_err-published-clause-beside : goal.returns-in_err-published-clause-beside
returns-in_err-published-clause-beside g c = c.consult.ensures.beside

pub returns-in_err-reader-clause-told : goal.returns-in_err-reader-clause-told
returns-in_err-reader-clause-told g c =
    let p = err_from_is_err_and c.from_residual-in_err-reader.result c.from_residual-in_err-reader.ensures.1 in
    let at = goal.at.returns-in_err-reader-clause-told g c in
    rw (p.1, p.2)
    (start-told _ _ _ _ _ _ _ _ c.in_err-reader.field-0.0 _ (has-begun g at.In_ok-published c.start.new.link) c.in_err-reader.ensures.refused c.in_err-reader.ensures.cause c.consult.ensures.cause.later)

pub returns-in_err-reader-clause-faults : goal.returns-in_err-reader-clause-faults
returns-in_err-reader-clause-faults g c = omega (arith, c.consult.ensures.cause.later, c.start.ensures.cause.later)

pub returns-in_err-reader-clause-ready : goal.returns-in_err-reader-clause-ready
returns-in_err-reader-clause-ready g c = c.start.ensures.ready

pub returns-in_err-reader-clause-beside : goal.returns-in_err-reader-clause-beside
returns-in_err-reader-clause-beside g c = c.start.ensures.beside ∙ c.consult.ensures.beside

pub returns-in_err-ranked-clause-told : goal.returns-in_err-ranked-clause-told
returns-in_err-ranked-clause-told g c =
    let p = err_from_is_err_and c.from_residual-in_err-ranked.result c.from_residual-in_err-ranked.ensures.1 in
    let at = goal.at.returns-in_err-ranked-clause-told g c in
    rw (p.1, p.2)
    (rank-told _ _ _ _ _ _ _ _ c.in_ok-reader.reader _ (has-begun g at.In_ok-published c.rank.new.link) c.in_ok-reader.ensures.came c.in_ok-reader.ensures.reader c.in_ok-reader.ensures.rest _ c.in_err-ranked.field-0.0 _
    c.in_err-ranked.ensures.refused c.in_err-ranked.ensures.cause (omega (arith, c.consult.ensures.cause.later, c.start.ensures.cause.later)))

pub returns-in_err-ranked-clause-faults : goal.returns-in_err-ranked-clause-faults
returns-in_err-ranked-clause-faults g c = omega (arith, c.consult.ensures.cause.later, c.start.ensures.cause.later, c.rank.ensures.cause.later)

pub returns-in_err-ranked-clause-ready : goal.returns-in_err-ranked-clause-ready
returns-in_err-ranked-clause-ready g c = c.rank.ensures.ready

pub returns-in_err-ranked-clause-beside : goal.returns-in_err-ranked-clause-beside
returns-in_err-ranked-clause-beside g c = c.rank.ensures.beside ∙ c.start.ensures.beside ∙ c.consult.ensures.beside

pub returns-in_err-listed-clause-told : goal.returns-in_err-listed-clause-told
returns-in_err-listed-clause-told g c =
    let p = err_from_is_err_and c.from_residual-in_err-listed.result c.from_residual-in_err-listed.ensures.1 in
    let at = goal.at.returns-in_err-listed-clause-told g c in
    let end = c.records.new.link in
    let ranked = has-ranked g at.In_ok-ranked end (has-begun g at.In_ok-published end) in
    rw (p.1, p.2)
    (records-unread _ _ _ _ _ _ ranked _ _ _ c.in_err-listed.field-0.0 _ (bins-are g at.After-bins-bins) c.in_err-listed.ensures.refused c.in_err-listed.ensures.cause
    (omega (arith, c.consult.ensures.cause.later, c.start.ensures.cause.later, c.rank.ensures.cause.later)))

pub returns-in_err-listed-clause-faults : goal.returns-in_err-listed-clause-faults
returns-in_err-listed-clause-faults g c = omega (arith, c.consult.ensures.cause.later, c.start.ensures.cause.later, c.rank.ensures.cause.later, c.records.ensures.cause.later)

pub returns-in_err-listed-clause-ready : goal.returns-in_err-listed-clause-ready
returns-in_err-listed-clause-ready g c = c.records.ensures.ready

pub returns-in_err-listed-clause-beside : goal.returns-in_err-listed-clause-beside
returns-in_err-listed-clause-beside g c = c.records.ensures.beside ∙ c.rank.ensures.beside ∙ c.start.ensures.beside ∙ c.consult.ensures.beside

pub returns-in_err-chunks-clause-told : goal.returns-in_err-chunks-clause-told
returns-in_err-chunks-clause-told g c =
    let p = err_from_is_err_and c.from_residual-in_err-chunks.result c.from_residual-in_err-chunks.ensures.1 in
    let at = goal.at.returns-in_err-chunks-clause-told g c in
    let end = c.fetch.new.link in
    let ranked = has-ranked g at.In_ok-ranked end (has-begun g at.In_ok-published end) in
    let read = has-records g at.In_ok-listed end ranked (bins-are g at.After-bins-bins) in
    rw (p.1, p.2)
    (fetch-told _ _ _ _ _ _ _ read _ _ _ c.in_err-chunks.field-0.0 _ (bin-is g at.After-bin_of-bin) c.in_err-chunks.ensures.refused c.in_err-chunks.ensures.cause
    (omega (arith, c.consult.ensures.cause.later, c.start.ensures.cause.later, c.rank.ensures.cause.later, c.records.ensures.cause.later)))

pub returns-in_err-chunks-clause-faults : goal.returns-in_err-chunks-clause-faults
returns-in_err-chunks-clause-faults g c =
    omega (arith, c.consult.ensures.cause.later, c.start.ensures.cause.later, c.rank.ensures.cause.later, c.records.ensures.cause.later, c.fetch.ensures.cause.later)

pub returns-in_err-chunks-clause-ready : goal.returns-in_err-chunks-clause-ready
returns-in_err-chunks-clause-ready g c = c.fetch.ensures.ready

pub returns-in_err-chunks-clause-beside : goal.returns-in_err-chunks-clause-beside
returns-in_err-chunks-clause-beside g c = c.fetch.ensures.beside ∙ c.records.ensures.beside ∙ c.rank.ensures.beside ∙ c.start.ensures.beside ∙ c.consult.ensures.beside

pub returns-clause-told : goal.returns-clause-told
returns-clause-told g c =
    let at = goal.at.returns-clause-told g c in
    let end = c.fetch.new.link in
    let ranked = has-ranked g at.In_ok-ranked end (has-begun g at.In_ok-published end) in
    let read = has-records g at.In_ok-listed end ranked (bins-are g at.After-bins-bins) in
    let fetched = fetches _ _ _ _ _ _ _ read _ _ _ _ (bin-is g at.After-bin_of-bin) c.in_ok-chunks.ensures.came c.in_ok-chunks.ensures.rest in
    shown-told _ _ _ _ _ _ _ read _ _ _ fetched c.as_slice.result.now c.as_slice-read.result.now c.show.result c.as_slice.ensures c.as_slice-read.ensures c.show.ensures

pub returns-clause-faults : goal.returns-clause-faults
returns-clause-faults g c =
    omega (arith, c.consult.ensures.cause.later, c.start.ensures.cause.later, c.rank.ensures.cause.later, c.records.ensures.cause.later, c.fetch.ensures.cause.later)

pub returns-clause-ready : goal.returns-clause-ready
returns-clause-ready g c = c.fetch.ensures.ready

pub returns-clause-beside : goal.returns-clause-beside
returns-clause-beside g c = c.fetch.ensures.beside ∙ c.records.ensures.beside ∙ c.rank.ensures.beside ∙ c.start.ensures.beside ∙ c.consult.ensures.beside

-- ---- what the calls ask

pub rank-requires-clause-sorted : goal.rank-requires-clause-sorted
rank-requires-clause-sorted g c = terms-sorted c.in_ok-published.published.terms c.in_ok-published.ensures.found.public.good.each

pub rank-requires-clause-few : goal.rank-requires-clause-few
rank-requires-clause-few g c =
    let good = c.in_ok-published.ensures.found.public.good in
    omega (arith, good.count, (ranges c.in_ok-published.published.tested good.good.ranges).terms_high)

pub records-requires-clause-rows : goal.records-requires-clause-rows
records-requires-clause-rows g c =
    subst (λ (r : ReaderState). r.shape.rows ≡ rows_of r.shape.degree r.shape.documents r.shape.hits r.shape.salt) (sym c.in_ok-reader.ensures.reader) c.in_ok-published.ensures.found.public.good.good.rows

pub records-requires-clause-few : goal.records-requires-clause-few
records-requires-clause-few g c = c.in_ok-ranked.ensures.few

pub records-requires-clause-placed : goal.records-requires-clause-placed
records-requires-clause-placed g c = c.in_ok-ranked.ensures.placed

pub fetch-requires-clause-ready : goal.fetch-requires-clause-ready
fetch-requires-clause-ready g c = c.records.ensures.ready

pub fetch-requires-clause-bin : goal.fetch-requires-clause-bin
fetch-requires-clause-bin g c =
    let at = goal.at.fetch-requires-clause-bin g c in
    let s = c.in_ok-reader.reader.shape in
    let some = subst (λ (r : ReaderState). 1 ≤ r.shape.bins) (sym c.in_ok-reader.ensures.reader) (ranges c.in_ok-published.published.tested c.in_ok-published.ensures.found.public.good.good.ranges).bins_low in
    subst (λ (k : ℕ). k < s.bins) (sym (bin-is g at.After-bin_of-bin)) (picked-within s c.in_ok-listed.listed c.args.pick some (within g at.In_ok-listed (bins-are g at.After-bins-bins)))

pub show-requires-clause-pick : goal.show-requires-clause-pick
show-requires-clause-pick g c = c.requires.pick

pub show-requires-clause-long : goal.show-requires-clause-long
show-requires-clause-long g c = ap (λ (rs : List Record). length rs) c.as_slice-read.ensures ∙ c.in_ok-listed.ensures.long

pub show-requires-clause-within : goal.show-requires-clause-within
show-requires-clause-within g c =
    let at = goal.at.show-requires-clause-within g c in
    subst (λ (rs : List Record). All (λ r. is_within_bins c.in_ok-reader.reader.shape r.place ≡ true) rs) (sym c.as_slice-read.ensures) (within g at.In_ok-listed (bins-are g at.After-bins-bins))

pub show-requires-clause-whole : goal.show-requires-clause-whole
show-requires-clause-whole g c =
    let s = c.in_ok-reader.reader.shape in
    let spelled = c.in_ok-chunks.ensures.came.spelled in
    ap (λ (xs : List ℕ). length xs) c.as_slice.ensures ∙ spelled-long s.degree s.chunks spelled.ciphers c.in_ok-chunks.chunks spelled.spelled
