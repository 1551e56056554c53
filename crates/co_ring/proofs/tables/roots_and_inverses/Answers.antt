use Rattle.std.proofs.Common.{ℕ, get_or, ◌≡◌, ◌*◌, ◌-◌, ◌^◌, pos, ap, subst, arith, ◌∙◌}
use Rattle.co_math.specs.Residues.{residue}
use Rattle.co_math.specs.Powers.{power}
use Rattle.co_ring.specs.Tables.{ArePowersAt, reversals, opposite_reversals}
use Rattle.co_ring.proofs.Factors.{more_powers, whole_shift}
use Rattle.co_ring.proofs.tables.roots_and_inverses.Goals as goal

pub loop-t-preserved : goal.loop-t-preserved
loop-t-preserved c = λ m psi h.
    let place = c.reversed-place.result in
    let so_far = c.loop-t.invariant m psi h in
    let within = c.reversed-place.ensures.within in
    let value = c.reversed-place.ensures.value in (
      more_powers m psi (reversals c.args.levels) c.loop-t.t c.loop-t.roots.items _ _ so_far.0 c.in_ok-push.ensures.items
          (h.each place (omega (arith, c.requires.count, within)) ∙ ap (λ (k : ℕ). residue m (power (pos psi) k)) value),
      more_powers m psi (opposite_reversals c.args.levels) c.loop-t.t c.loop-t.inverses.items _ _ so_far.1 c.in_ok-push-2.ensures.items
          (ap (λ (k : ℕ). get_or c.args.powers.now (2 * k - place) 0) (whole_shift c.args.levels c.requires.levels)
          ∙ h.each (2 * 2 ^ c.args.levels - place) (omega (arith, c.requires.count, within)) ∙ ap (λ (k : ℕ). residue m (power (pos psi) k)) (ap (λ (k : ℕ). 2 * 2 ^ c.args.levels - k) value)),
    )

pub returns-clause-roots : goal.returns-clause-roots
returns-clause-roots c = λ m psi h.
    let all : c.loop-t.t ≡ 2 ^ c.args.levels = omega (arith, whole_shift c.args.levels c.requires.levels) in
    subst (λ (k : ℕ). ArePowersAt m psi (reversals c.args.levels) k c.loop-t.roots.items) all (c.loop-t.invariant m psi h).0

pub returns-clause-inverses : goal.returns-clause-inverses
returns-clause-inverses c = λ m psi h.
    let all : c.loop-t.t ≡ 2 ^ c.args.levels = omega (arith, whole_shift c.args.levels c.requires.levels) in
    subst (λ (k : ℕ). ArePowersAt m psi (opposite_reversals c.args.levels) k c.loop-t.inverses.items) all (c.loop-t.invariant m psi h).1
