use Rattle.std.proofs.Common.{◌≡◌}
use Rattle.co_bfv.specs.Draws.{drawn, binomial_draw}
use Rattle.co_bfv.proofs.draws.errors.Given as goal

abbrev pub invariant-loop-i : goal.invariant-loop-i
invariant-loop-i g l = (l.drawn.items, g.R.Rng.stream l.rng) ≡ drawn binomial_draw l.i (g.R.Rng.stream l.fn.rng)
