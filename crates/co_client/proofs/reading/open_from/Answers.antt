use Rattle.std.proofs.Common.{◌≡◌, ℕ, ◌*◌, ◌<◌, ◌∙◌, ap, subst, arith, length}
use Rattle.std.proofs.lemmas.Result.{err_from_is_err_and}
use Rattle.co_math.proofs.Degrees.{degree_positive}
use Rattle.co_client.proofs.Opened.{opened-none, opened-more, opened-all, opened-fault}
use Rattle.co_client.proofs.reading.open_from.Goals as goal

pub loop-chunk-init : goal.loop-chunk-init
loop-chunk-init c =
    let n = c.args.degree in
    let positive : 0 < n = subst (λ (k : ℕ). 0 < k) c.get-n.ensures.value (degree_positive c.get-n.result c.get-n.ensures.valid) in
    record {
      opened = opened-none n c.args.secret.now c.args.body.now c.args.from c.args.count positive c.requires.whole _ c.in-Ok.ensures;
      long = omega (arith, ap length c.in-Ok.ensures);
    }

pub loop-chunk-preserved : goal.loop-chunk-preserved
loop-chunk-preserved c =
    let n = c.args.degree in
    let positive : 0 < n = subst (λ (k : ℕ). 0 < k) c.get-n.ensures.value (degree_positive c.get-n.result c.get-n.ensures.valid) in
    record {
      opened = opened-more n c.args.secret.now c.args.body.now c.args.from c.args.count positive c.requires.whole c.loop-chunk.chunk c.loop-chunk.bytes c.open_one.new.bytes (omega arith) c.loop-chunk.invariant.opened
          c.in_ok-open_one.ensures.bytes;
      long = omega (arith, c.loop-chunk.invariant.long, c.in_ok-open_one.ensures.long);
    }

pub returns-in_err-open_one-clause-opened : goal.returns-in_err-open_one-clause-opened
returns-in_err-open_one-clause-opened c =
    let n = c.args.degree in
    let positive : 0 < n = subst (λ (k : ℕ). 0 < k) c.get-n.ensures.value (degree_positive c.get-n.result c.get-n.ensures.valid) in
    let cause = opened-fault n c.args.secret.now c.args.body.now c.args.from c.args.count positive c.requires.whole c.loop-chunk.chunk c.loop-chunk.bytes c.in_err-open_one.field-0.0 (omega arith) c.loop-chunk.invariant.opened
    c.in_err-open_one.ensures.fault in
    let p = err_from_is_err_and c.from_residual.result c.from_residual.ensures.1 in
    rw (p.1, p.2) cause

pub returns-clause-opened : goal.returns-clause-opened
returns-clause-opened c =
    let n = c.args.degree in
    let positive : 0 < n = subst (λ (k : ℕ). 0 < k) c.get-n.ensures.value (degree_positive c.get-n.result c.get-n.ensures.valid) in
    opened-all n c.args.secret.now c.args.body.now c.args.from c.args.count positive c.requires.whole c.loop-chunk.chunk c.loop-chunk.bytes (omega arith) c.loop-chunk.invariant.opened

pub returns-clause-long : goal.returns-clause-long
returns-clause-long c = let all : c.loop-chunk.chunk ≡ c.args.count = omega arith in c.loop-chunk.invariant.long ∙ ap (λ (k : ℕ). 2 * (k * c.args.degree)) all
