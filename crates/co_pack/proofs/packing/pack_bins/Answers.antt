-- Goals of `pack_bins` that the check left open.
use Rattle.std.proofs.Common.{◌≡◌, ◌<◌, ◌∙◌, ℕ, List, length, get_or, ap, sym, subst, arith}
use Rattle.std.specs.List.{All, range_with_len}
use Rattle.std.specs.List.Sorted.{IsPermutation}
use Rattle.co_pack.specs.Packing.{no_place}
use Rattle.co_pack.specs.declared.packing.Place.{Place}
use Rattle.co_pack.proofs.Keys.{order_long, order_below}
use Rattle.co_pack.proofs.Packed.{packed}
use Rattle.co_pack.proofs.packing.pack_bins.Goals as goal

pub pack_in_order-requires-clause-some : goal.pack_in_order-requires-clause-some
pack_in_order-requires-clause-some c =
    let whole : length c.in_ok-order.order.items ≡ length c.args.lengths.now = order_long (length c.args.lengths.now) c.in_ok-order.order.items c.in_ok-order.ensures.permutes in
    omega (arith, ap length c.deref.ensures.value)

pub pack_in_order-requires-clause-few : goal.pack_in_order-requires-clause-few
pack_in_order-requires-clause-few c =
    let whole : length c.in_ok-order.order.items ≡ length c.args.lengths.now = order_long (length c.args.lengths.now) c.in_ok-order.order.items c.in_ok-order.ensures.permutes in
    omega (arith, ap length c.deref.ensures.value)

pub pack_in_order-requires-clause-numbers : goal.pack_in_order-requires-clause-numbers
pack_in_order-requires-clause-numbers c =
    subst (All (λ (d : ℕ). d < length c.args.lengths.now)) (sym c.deref.ensures.value) (order_below (length c.args.lengths.now) c.in_ok-order.order.items c.in_ok-order.ensures.permutes)

pub by_document-requires-clause-permutes : goal.by_document-requires-clause-permutes
by_document-requires-clause-permutes c =
    let whole : length c.in_ok-order.order.items ≡ length c.args.lengths.now = order_long (length c.args.lengths.now) c.in_ok-order.order.items c.in_ok-order.ensures.permutes in
    subst (λ (order : List ℕ). IsPermutation (range_with_len 0 (length order)) order) (sym c.deref-2.ensures.value)
    (subst (λ n. IsPermutation (range_with_len 0 n) c.in_ok-order.order.items) (sym whole) c.in_ok-order.ensures.permutes)

pub returns : goal.returns
returns c =
    rw c.from_vec.ensures (packed c.args.lengths.now c.args.size c.in_ok-placed.bins c.in_ok-order.order.items c.in_ok-placed.placed.items c.in_ok-places.places.items
    c.in_ok-order.ensures.permutes c.in_ok-order.ensures.in_order
    (c.in_ok-placed.ensures.many ∙ ap length c.deref.ensures.value)
    (λ s below. c.in_ok-placed.ensures.long s (omega (arith, ap length c.deref.ensures.value)) ∙ ap (λ (xs : List ℕ). get_or c.args.lengths.now (get_or xs s 0) 0) c.deref.ensures.value)
    c.in_ok-placed.ensures.first_fit c.in_ok-placed.ensures.count
    (c.in_ok-places.ensures.many ∙ ap length c.deref-2.ensures.value)
    (λ s below. ap (λ (xs : List ℕ). get_or c.in_ok-places.places.items (get_or xs s 0) no_place) (sym c.deref-2.ensures.value)
    ∙ c.in_ok-places.ensures.moved s (omega (arith, ap length c.deref-2.ensures.value)) ∙ ap (λ (ps : List Place). get_or ps s no_place) c.deref-3.ensures.value))
