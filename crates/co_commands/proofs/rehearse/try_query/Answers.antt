use Rattle.std.proofs.Common.{◌≡◌, ◌<◌, ◌+◌, ◌++◌, List, ℕ, length, map, string_bytes, slice_index_or, [], ap, sym, ◌∙◌, arith}
use Rattle.std.proofs.lemmas.Result.{err_from_is_err_and}
use Rattle.co_text.specs.Printed.{printed}
use Rattle.co_text.specs.Terms.{terms}
use Rattle.co_corpus.specs.declared.documents.Document.{Document}
use Rattle.co_tfidf.specs.Found.{found}
use Rattle.co_commands.specs.Words.{joined}
use Rattle.co_commands.specs.Generator.{queries_of}
use Rattle.co_commands.proofs.Rehearsing.{query_at, queries_long, few_at, judged_not, tried}
use Rattle.co_commands.proofs.rehearse.try_query.Goals as goal

pub index-requires : goal.index-requires
index-requires g c =
    omega (arith, c.requires.place, queries_long (λ words. map string_bytes words.items) c.args.ready.now.made.queries.items c.args.command.now.number c.requires.ready.queries)

pub plain_answer-requires-clause-few : goal.plain_answer-requires-clause-few
plain_answer-requires-clause-few g c =
    let within : c.args.place < length c.args.ready.now.made.queries.items =
    omega (arith, c.requires.place, queries_long (λ words. map string_bytes words.items) c.args.ready.now.made.queries.items c.args.command.now.number c.requires.ready.queries) in
    let same : map string_bytes c.as_slice-query.result.now ≡ slice_index_or (queries_of c.args.command.now.number) c.args.place [] =
    ap (map string_bytes) c.as_slice-query.ensures.value
    ∙ query_at (λ words. map string_bytes words.items) c.args.ready.now.made.queries.items (queries_of c.args.command.now.number) c.args.place c.index.result.now c.requires.ready.queries within c.index.ensures in
    few_at c.args.command.now.number c.args.place (map string_bytes c.as_slice-query.result.now) c.requires.place same

pub returns-in_err-both : goal.returns-in_err-both
returns-in_err-both g c =
    let within : c.args.place < length c.args.ready.now.made.queries.items =
    omega (arith, c.requires.place, queries_long (λ words. map string_bytes words.items) c.args.ready.now.made.queries.items c.args.command.now.number c.requires.ready.queries) in
    let same : map string_bytes c.as_slice-query.result.now ≡ slice_index_or (queries_of c.args.command.now.number) c.args.place [] =
    ap (map string_bytes) c.as_slice-query.ensures.value
    ∙ query_at (λ words. map string_bytes words.items) c.args.ready.now.made.queries.items (queries_of c.args.command.now.number) c.args.place c.index.result.now c.requires.ready.queries within c.index.ensures in
    let p = err_from_is_err_and c.from_residual.result c.from_residual.ensures.1 in
    rw (p.1, p.2)
    (judged_not c.args.command.now c.args.ready.now.loaded (c.args.place + 1) (map string_bytes c.as_slice-query.result.now) (slice_index_or (queries_of c.args.command.now.number) c.args.place [])
    (g.R.Rng.stream c.args.rng.now) (g.R.Rng.stream c.judge.new.rng) c.in_err-both.field-0.0 same c.in_err-both.ensures.cause)

pub returns : goal.returns
returns g c =
    let within : c.args.place < length c.args.ready.now.made.queries.items =
    omega (arith, c.requires.place, queries_long (λ words. map string_bytes words.items) c.args.ready.now.made.queries.items c.args.command.now.number c.requires.ready.queries) in
    let same : map string_bytes c.as_slice-query.result.now ≡ slice_index_or (queries_of c.args.command.now.number) c.args.place [] =
    ap (map string_bytes) c.as_slice-query.ensures.value
    ∙ query_at (λ words. map string_bytes words.items) c.args.ready.now.made.queries.items (queries_of c.args.command.now.number) c.args.place c.index.result.now c.requires.ready.queries within c.index.ensures in
    tried c.args.command.now c.args.ready.now.loaded (c.args.place + 1) (map string_bytes c.as_slice-query.result.now) (slice_index_or (queries_of c.args.command.now.number) c.args.place [])
    (g.R.Rng.stream c.args.rng.now) (g.R.Rng.stream c.judge.new.rng) c.args.tally.now
    (record { agree = c.args.tally.now.agree + c.one_if.result; unplaced = c.args.tally.now.unplaced + c.one_if-2.result; plain = c.append.new.self })
    c.as_slice.result.now c.in_ok-both.both same c.in_ok-both.ensures.ok
    (c.as_slice.ensures ∙ c.in-Ok.ensures
    ∙ ap (λ (ds : List Document). printed (found 256 ds 16 (terms (joined (map string_bytes c.as_slice-query.result.now))) (c.args.place + 1))) c.requires.ready.documents)
    (ap (λ (n : ℕ). c.args.tally.now.agree + n) c.one_if.ensures) (ap (λ (n : ℕ). c.args.tally.now.unplaced + n) c.one_if-2.ensures)
    (c.in-Ok-append.ensures.ok ∙ ap (λ (bytes : List ℕ). c.args.tally.now.plain ++ bytes) (c.as_slice-2.ensures ∙ sym c.as_slice.ensures))
