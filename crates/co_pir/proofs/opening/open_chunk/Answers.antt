use Rattle.std.proofs.Common.{◌≡◌, ◌*◌, ℕ, length, ap, arith}
use Rattle.co_pir.proofs.opening.open_chunk.Goals as goal

pub overflow_mul-result : goal.overflow_mul-result
overflow_mul-result c =
    let e : c.args.chunk * c.degree.result ≡ c.args.chunk * length c.args.secret.now = ap (λ (k : ℕ). c.args.chunk * k) c.degree.ensures.value in
    omega (arith, e, c.requires.few)
