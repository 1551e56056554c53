use Rattle.std.proofs.Common.{ℕ, ℤ, ◌%◌, ap, ◌∙◌, pos, ◌-ℤ◌}
use Rattle.rand_core.specs.Stream.{Stream}
use Rattle.co_bfv.specs.Draws.{ternary_draw}
use Rattle.co_bfv.proofs.Drawn.{ternary_is}
use Rattle.co_bfv.proofs.draws.ternary.Goals as goal

pub returns-clause-drawn : goal.returns-clause-drawn
unfolding ternary_draw
returns-clause-drawn g c =
    ap (λ (x : ℤ). (x, g.R.Rng.stream c.next_u64.new.self)) (ternary_is c.next_u64.result)
    ∙ ap (λ (p : ℕ × Stream). (pos (p.0 % 3) -ℤ pos 1, p.1)) c.next_u64.ensures
