use Rattle.std.proofs.Common.{ℕ, ◌+◌, ◌*◌, ap, ◌∙◌}
use Rattle.rand_core.specs.Stream.{Stream, next_u64}
use Rattle.co_bfv.specs.Draws.{wide_draw}
use Rattle.co_bfv.proofs.draws.wide.Goals as goal

pub returns : goal.returns
unfolding wide_draw
returns g c =
    ap (λ (p : ℕ × Stream). (c.next_u64-high.result * 18446744073709551616 + p.0, p.1)) c.next_u64-low.ensures
    ∙ ap (λ (p : ℕ × Stream). (p.0 * 18446744073709551616 + (next_u64 p.1).0, (next_u64 p.1).1)) c.next_u64-high.ensures
