use Rattle.std.proofs.Common.{ℕ, ◌≡◌, ◌%◌, length}
use Rattle.co_math.specs.Parameters.{q}
use Rattle.co_math.specs.Coefficients.{residues_of, signed_coefficients}
use Rattle.co_switch.specs.Switches.{automorphism}
use Rattle.co_switch.proofs.Hiding.{IsMade}
use Rattle.co_switch.proofs.making.hide_all.Given as goal

abbrev pub invariant-loop-index : goal.invariant-loop-index
invariant-loop-index g l = record {
  degree : length l.hidden ≡ length l.secret;
  made : (e : ℕ) → e % 2 ≡ 1 → l.initial.hidden ≡ automorphism e (residues_of q (length l.secret) (signed_coefficients l.secret))
      → IsMade l.secret e l.index (g.R.Rng.stream l.fn.rng) (g.R.Rng.stream l.rng) l.k0.items l.k1.items l.hidden;
}
