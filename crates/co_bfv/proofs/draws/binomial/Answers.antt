use Rattle.std.proofs.Common.{ℕ, ℤ, ◌/◌, ◌%◌, ◌^◌, ap, ◌∙◌, pos, ◌-ℤ◌, count_ones}
use Rattle.co_math.specs.Parameters.{error_bound}
use Rattle.rand_core.specs.Stream.{Stream}
use Rattle.co_bfv.specs.Draws.{binomial_draw}
use Rattle.co_bfv.proofs.Drawn.{ones_is, ones_small}
use Rattle.co_bfv.proofs.draws.binomial.Goals as goal

pub returns : goal.returns
unfolding binomial_draw
returns g c =
    let w = c.next_u64-word.result in
    ap (λ (x : ℤ). (x, g.R.Rng.stream c.next_u64-word.new.self)) (ones_is (count_ones (w % 2 ^ error_bound)) (count_ones (w / 2 ^ error_bound % 2 ^ error_bound)) (ones_small w) (ones_small (w / 2 ^ error_bound)))
    ∙ ap (λ (p : ℕ × Stream). (pos (count_ones (p.0 % 2 ^ error_bound)) -ℤ pos (count_ones (p.0 / 2 ^ error_bound % 2 ^ error_bound)), p.1)) c.next_u64-word.ensures
