use Rattle.std.proofs.Common.{◌≡◌, ◌+◌, ◌-◌, ◌∙◌, arith, take, drop, Ok, Err}
use Rattle.std.proofs.lemmas.Result.{err_from_is_err_and}
use Rattle.co_client.proofs.Readings.{bin-read, text-then, text-fault}
use Rattle.co_client.proofs.fetching.read_text.Goals as goal

pub returns-in_err-bin : goal.returns-in_err-bin
returns-in_err-bin c =
    let p = err_from_is_err_and c.from_residual.result c.from_residual.ensures.1 in
    rw (p.1, p.2)
    (λ cs s.
    let shape = c.args.reader.now.shape in
    let degree : c.of-degree.result ≡ shape.degree = grind arith in
    let count : c.chunks-chunks.result ≡ shape.chunks = grind arith in
    text-fault c.args.reader.now.secret cs c.args.place c.in_err-bin.field-0.0
    (bin-read (Err c.in_err-bin.field-0.0) shape c.secret-secret.result.now c.args.reader.now.secret c.of-degree.result c.chunks-chunks.result c.args.body.now degree count c.secret-secret.ensures.value c.in_err-bin.ensures.read cs s))

pub returns-in-Ok : goal.returns-in-Ok
returns-in-Ok c = λ cs s.
    let shape = c.args.reader.now.shape in
    let degree : c.of-degree.result ≡ shape.degree = grind arith in
    let count : c.chunks-chunks.result ≡ shape.chunks = grind arith in
    let long : c.args.place.offset + c.args.place.length - c.args.place.offset ≡ c.args.place.length = omega arith in
    text-then c.args.reader.now.secret cs c.args.place c.in_ok-bin.bin c.in-Ok.text (c.in-Ok.ensures ∙ (λ t. take (long t) (drop c.args.place.offset (c.as_slice.ensures t))))
    (bin-read (Ok c.in_ok-bin.bin) shape c.secret-secret.result.now c.args.reader.now.secret c.of-degree.result c.chunks-chunks.result c.args.body.now degree count c.secret-secret.ensures.value c.in_ok-bin.ensures.read cs s)
