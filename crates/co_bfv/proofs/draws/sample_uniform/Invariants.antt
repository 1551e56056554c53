use Rattle.std.proofs.Common.{◌≡◌, length}
use Rattle.co_ring.specs.declared.moduli.Modulus.TheVariants.{First, Second}
use Rattle.co_bfv.specs.Draws.{drawn, coefficient_draw}
use Rattle.co_bfv.proofs.Drawn.{AreParts}
use Rattle.co_bfv.proofs.draws.sample_uniform.Given as goal

abbrev pub invariant-loop-k : goal.invariant-loop-k
invariant-loop-k g l = record {
  first_modulus : l.first.modulus ≡ First;
  second_modulus : l.second.modulus ≡ Second;
  first_degree : length l.first.coeffs ≡ l.fn.degree;
  second_degree : length l.second.coeffs ≡ l.fn.degree;
  rest : g.R.Rng.stream l.rng ≡ (drawn coefficient_draw l.k (g.R.Rng.stream l.fn.rng)).1;
  parts : AreParts l.k (drawn coefficient_draw l.k (g.R.Rng.stream l.fn.rng)).0 l.first.coeffs l.second.coeffs;
}
