use Rattle.std.proofs.Common.{◌≡◌, ℕ, ◌<◌, length, get_or}
use Rattle.co_rns.specs.Residue_pairs.{all_composed}
use Rattle.co_rns.proofs.parts.compose_all.Given as goal

abbrev pub invariant-loop-k : goal.invariant-loop-k
invariant-loop-k l = record {
  len : length l.into ≡ length l.initial.into;
  done : (j : ℕ) → j < l.k → get_or l.into j 0 ≡ get_or (all_composed l.first.coeffs l.second.coeffs) j 0;
}
