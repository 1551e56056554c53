use Rattle.std.proofs.Common.{ℕ, length}
use Rattle.co_ring.specs.Tables.{ArePowersAt, reversals, opposite_reversals}
use Rattle.co_ring.proofs.tables.roots_and_inverses.Given as goal

abbrev pub invariant-loop-t : goal.invariant-loop-t
invariant-loop-t l =
    (m psi : ℕ) → ArePowersAt m psi (λ k. k) (length l.powers) l.powers
    → ArePowersAt m psi (reversals l.levels) l.t l.roots.items × ArePowersAt m psi (opposite_reversals l.levels) l.t l.inverses.items
