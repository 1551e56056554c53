use Rattle.std.proofs.Common.{◌≡◌, ℕ, ◌-◌, ◌++◌, min, ◌∙◌, ap, arith, List, length, take}
use Rattle.std.proofs.lemmas.List.{take_all, take_min}
use Rattle.co_client.proofs.scoring.add_scores.Goals as goal

pub returns : goal.returns
returns c =
    let before = c.args.scores.now.items in
    let slots = c.args.slots.now in
    let is : c.min-count.result ≡ min (c.args.documents - length before) (length slots) = omega arith in
    c.loop-slot.invariant
    ∙ ap (λ (xs : List ℕ). before ++ xs) (take_all c.loop-slot.slot-index (take c.min-count.result slots) (omega arith) ∙ ap (λ (k : ℕ). take k slots) is ∙ take_min (c.args.documents - length before) slots)
