-- Goals of `pack_in_order` that the check left open.
use Rattle.co_pack.proofs.Placing.{packing_more}
use Rattle.co_pack.proofs.packing.pack_in_order.Goals as goal

pub loop-document-preserved : goal.loop-document-preserved
loop-document-preserved c =
    packing_more _ _ _ _ _ _ _ c.loop-document.invariant c.in_ok-place.place _ _ _ c.in_ok-place.ensures.long c.in_ok-place.ensures.next c.in_ok-place.ensures.topped c.in_ok-place.ensures.short
    c.in_ok-place.ensures.within c.in_ok-place.ensures.few c.in_ok-push.ensures.items
