-- Goals of `by_document` that the check left open.
use Rattle.std.proofs.Common.{◌<◌, ◌∙◌, length, length-set, get_or, arith}
use Rattle.co_pack.proofs.Keys.{order_below, scattered}
use Rattle.co_pack.proofs.packing.by_document.Goals as goal

pub index_mut-requires : goal.index_mut-requires
index_mut-requires c =
    let below : get_or c.args.order.now c.loop-s.s 0 < length c.args.order.now = order_below (length c.args.order.now) c.args.order.now c.requires.permutes c.loop-s.s 0 c.loop-s-test.true in
    omega (arith, c.loop-s.invariant.0)

pub loop-s-preserved : goal.loop-s-preserved
loop-s-preserved c = (
  length-set c.loop-s.places.items _ _ ∙ c.loop-s.invariant.0,
  scattered (length c.args.order.now) c.args.order.now c.requires.permutes c.args.placed.now c.loop-s.places.items c.loop-s.s c.loop-s.invariant.0 c.loop-s-test.true c.loop-s.invariant.1,
)
