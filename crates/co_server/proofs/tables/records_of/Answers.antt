use Rattle.std.proofs.Common.{◌≡◌, ◌∙◌, ◌<◌, All, sym, ap, subst}
use Rattle.co_noise.specs.Shapes.{Numbers}
use Rattle.co_noise.specs.Bounds.{HasRoom}
use Rattle.co_bucket.specs.Bytes.{record_chunks, bucket_bytes}
use Rattle.co_rounds.specs.Serving.{record_at, bucket_table}
use Rattle.co_rounds.proofs.Recorded.{listed_below}
use Rattle.co_rounds.proofs.Retrievable.{is-bucket_table}
use Rattle.co_server.proofs.Bucketed.{table, is_roomy, same_table, renamed, list_is, list_there}
use Rattle.co_server.proofs.tables.records_of.Goals as goal

pub list-requires : goal.list-requires
list-requires c = list_there c.args.library.now c.args.lists.now c.args.bucket c.requires.lists c.requires.bucket

pub spelled-requires : goal.spelled-requires
spelled-requires c =
    let l = c.args.library.now in
    subst (All (λ d. d < l.shape.documents)) (sym (list_is l c.args.lists.now c.args.bucket c.list.result.now c.requires.lists c.requires.bucket c.list.ensures)) (listed_below l.shape c.args.bucket)

pub new-requires-clause-whole : goal.new-requires-clause-whole
new-requires-clause-whole c =
    let l = c.args.library.now in
    let shape : c.shape-shape.result.now ≡ l.shape = c.shape-shape.ensures.value ∙ c.requires.tested in
    let bytes = c.as_slice.ensures.value ∙ c.in_ok-bytes.ensures ∙ ap (bucket_bytes l.shape.degree l.shape.rows (record_at l.records)) (list_is l c.args.lists.now c.args.bucket c.list.result.now c.requires.lists c.requires.bucket c.list.ensures) in
    (is_roomy (bucket_table l c.args.bucket) (is-bucket_table l c.shape.ensures.library (subst HasRoom c.requires.tested c.shape-shape.ensures.room) c.args.bucket c.requires.bucket)
    c.of-degree.result c.rows.result c.record_chunks-chunks.result c.as_slice.result.now
    (c.of-degree.ensures ∙ c.degree.ensures.value ∙ ap (λ (s : Numbers). s.degree) shape) (c.rows.ensures ∙ ap (λ (s : Numbers). s.rows) shape)
    (c.record_chunks-chunks.ensures ∙ ap record_chunks (c.degree-2.ensures.value ∙ ap (λ (s : Numbers). s.degree) shape)) bytes).whole

pub returns : goal.returns
returns c =
    let l = c.args.library.now in
    let shape : c.shape-shape.result.now ≡ l.shape = c.shape-shape.ensures.value ∙ c.requires.tested in
    let bytes = c.as_slice.ensures.value ∙ c.in_ok-bytes.ensures ∙ ap (bucket_bytes l.shape.degree l.shape.rows (record_at l.records)) (list_is l c.args.lists.now c.args.bucket c.list.result.now c.requires.lists c.requires.bucket c.list.ensures) in
    renamed c.new.result (table c.of-degree.result c.rows.result c.record_chunks-chunks.result c.as_slice.result.now) (bucket_table l c.args.bucket)
    (same_table (bucket_table l c.args.bucket) c.of-degree.result c.rows.result c.record_chunks-chunks.result c.as_slice.result.now
    (c.of-degree.ensures ∙ c.degree.ensures.value ∙ ap (λ (s : Numbers). s.degree) shape) (c.rows.ensures ∙ ap (λ (s : Numbers). s.rows) shape)
    (c.record_chunks-chunks.ensures ∙ ap record_chunks (c.degree-2.ensures.value ∙ ap (λ (s : Numbers). s.degree) shape)) bytes) c.new.ensures
