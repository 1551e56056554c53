use Rattle.std.proofs.Common.{ℕ, ℤ, List, length, ◌≡◌, arith, ap, ◌∙◌}
use Rattle.rand_core.specs.Stream.{Stream}
use Rattle.co_bfv.specs.Draws.{drawn, binomial_draw, error_draw}
use Rattle.co_bfv.proofs.Drawn.{length-drawn}
use Rattle.co_bfv.proofs.draws.errors.Goals as goal

pub returns-clause-value : goal.returns-clause-value
unfolding error_draw
returns-clause-value g c =
    let s = g.R.Rng.stream c.args.rng.now in
    let all : c.loop-i.i ≡ c.args.degree = omega (arith, c.get-i-end.ensures.value) in
    ap (λ (p : List ℤ × Stream). p.0) (c.loop-i.invariant ∙ ap (λ (k : ℕ). drawn binomial_draw k s) all)

pub returns-clause-rest : goal.returns-clause-rest
unfolding error_draw
returns-clause-rest g c =
    let s = g.R.Rng.stream c.args.rng.now in
    let all : c.loop-i.i ≡ c.args.degree = omega (arith, c.get-i-end.ensures.value) in
    ap (λ (p : List ℤ × Stream). p.1) (c.loop-i.invariant ∙ ap (λ (k : ℕ). drawn binomial_draw k s) all)

pub returns-clause-len : goal.returns-clause-len
unfolding error_draw
returns-clause-len g c = ap length (returns-clause-value g c) ∙ length-drawn binomial_draw c.args.degree (g.R.Rng.stream c.args.rng.now)
