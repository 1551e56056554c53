use Rattle.std.proofs.Common.{◌≡◌, ◌+◌, ◌-◌, ◌*◌, ◌%◌, ◌∙◌, ap, arith, take, drop, Ok, Err}
use Rattle.std.proofs.lemmas.Result.{err_from_is_err_and}
use Rattle.co_noise.specs.Shapes.{Numbers}
use Rattle.co_bucket.specs.Rows.{records_a_row}
use Rattle.co_bucket.specs.Bytes.{record_chunks}
use Rattle.co_rounds.specs.Placing.{document_start}
use Rattle.co_client.specs.Gathered.{with_bins}
use Rattle.co_client.proofs.Readings.{row-read, record-then, record-fault}
use Rattle.co_client.proofs.recording.read_one.Goals as goal

pub returns-in_err-row-clause-read : goal.returns-in_err-row-clause-read
returns-in_err-row-clause-read c =
    let p = err_from_is_err_and c.from_residual.result c.from_residual.ensures.1 in
    rw (p.1, p.2)
    (λ cs all s.
    let shape = c.args.reader.now.shape in
    let degree : c.of-degree.result ≡ shape.degree = grind arith in
    let count : c.record_chunks-count.result ≡ record_chunks shape.degree = grind arith in
    record-fault (with_bins shape c.args.bins) c.args.reader.now.secret cs c.args.bucket c.args.document c.in_err-row.field-0.0
    (row-read (Err c.in_err-row.field-0.0) shape c.secret-secret.result.now c.args.reader.now.secret c.of-degree.result c.record_chunks-count.result c.args.bucket c.args.body.now degree count c.secret-secret.ensures.value c.in_err-row.ensures.read cs all s))

pub returns-clause-read : goal.returns-clause-read
returns-clause-read c = λ cs all s.
    let shape = c.args.reader.now.shape in
    let same : c.shape-shape.result.now ≡ shape = c.shape-shape.ensures.value ∙ c.tested.ensures in
    let degree : c.of-degree.result ≡ shape.degree = grind arith in
    let count : c.record_chunks-count.result ≡ record_chunks shape.degree = grind arith in
    let per : c.records_a_row.result ≡ records_a_row shape.degree = c.records_a_row.ensures.value ∙ ap records_a_row (c.degree-size.ensures.value ∙ ap (λ (x : Numbers). x.degree) same) in
    let start : 256 * (c.args.place % c.records_a_row.result) ≡ document_start shape c.args.bucket c.args.document = (λ t. 256 * (c.requires.place t % per t)) in
    let long : 256 * (c.args.place % c.records_a_row.result) + 256 - 256 * (c.args.place % c.records_a_row.result) ≡ 256 = omega arith in
    record-then (with_bins shape c.args.bins) (with_bins c.shape-shape.result.now c.args.bins) c.args.reader.now.secret cs c.args.bucket c.args.document c.in_ok-row.row _ c.check_record.result (λ t. with_bins (same t) c.args.bins) (λ t. take (long t) (drop (start t) (c.as_slice.ensures t)))
    (row-read (Ok c.in_ok-row.row) shape c.secret-secret.result.now c.args.reader.now.secret c.of-degree.result c.record_chunks-count.result c.args.bucket c.args.body.now degree count c.secret-secret.ensures.value c.in_ok-row.ensures.read cs all s)
    c.check_record.ensures.read
