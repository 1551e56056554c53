use Rattle.std.proofs.Common.{◌≡◌}
use Rattle.co_bfv.specs.Draws.{drawn, ternary_draw}
use Rattle.co_bfv.proofs.Drawn.{AreSmall}
use Rattle.co_bfv.proofs.draws.sample_secret.Given as goal

abbrev pub invariant-loop-i : goal.invariant-loop-i
invariant-loop-i g l = record {
  so_far : (l.coeffs.items, g.R.Rng.stream l.rng) ≡ drawn ternary_draw l.i (g.R.Rng.stream l.fn.rng);
  small : AreSmall l.i 1 l.coeffs.items;
}
