use Rattle.std.proofs.Common.{ℕ, List, ◌/◌, ◌+◌, sym, subst, ap, ◌∙◌}
use Rattle.co_math.specs.Exponents.{bit_reversal}
use Rattle.co_ring.proofs.Orderings.{same_levels}
use Rattle.co_slots.specs.Slots.{ArePlaces, exponent_of}
use Rattle.co_slots.proofs.Placing.{more_places}
use Rattle.co_slots.proofs.slots.places.Goals as goal

pub loop-p-preserved : goal.loop-p-preserved
loop-p-preserved c =
    let n = c.get-n.result in
    let l = c.exponent-levels.result in
    subst (λ (xs : List ℕ). ArePlaces n (c.loop-p.p + 1) xs) (sym {A = List ℕ} c.in_ok-push.ensures.items)
    (more_places n c.loop-p.p c.reversed.result c.loop-p.all.items c.loop-p.invariant
    (λ k size. c.reversed.ensures.value ∙ ap (λ e. bit_reversal l (e / 2)) c.exponent.ensures ∙ ap (λ j. bit_reversal j (exponent_of n c.loop-p.p / 2)) (same_levels l k (c.exponent-levels.ensures.value ∙ sym c.get-n.ensures.value ∙ size))))
