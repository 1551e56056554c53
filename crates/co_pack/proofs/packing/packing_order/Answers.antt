-- Goals of `packing_order` that the check left open.
use Rattle.std.proofs.Common.{◌≡◌, ◌<◌, ◌∙◌, ℕ, List, length, map, get_or, sym, subst, ap}
use Rattle.std.specs.declared.cmp.Reverse.{Reverse}
use Rattle.co_pack.specs.Packing.{IsEarlier}
use Rattle.co_pack.proofs.Keys.{order_from_keys}
use Rattle.co_pack.proofs.packing.packing_order.Goals as goal

pub returns-clause-in_order : goal.returns-clause-in_order
returns-clause-in_order c =
    let is : c.in_ok-order.order.items ≡ map (λ (k : Reverse ℕ × ℕ). k.1) c.in_ok-keys.keys.items = c.in_ok-order.ensures ∙ ap (map (λ (k : Reverse ℕ × ℕ). k.1)) c.deref.ensures.value in
    subst (λ (order : List ℕ). (s t : ℕ) → s < t → t < length order → IsEarlier c.args.lengths.now (get_or order s 0) (get_or order t 0)) (sym is)
    (order_from_keys c.args.lengths.now c.in_ok-keys.keys.items c.in_ok-keys.ensures.sorted c.in_ok-keys.ensures.long c.in_ok-keys.ensures.permutes)
