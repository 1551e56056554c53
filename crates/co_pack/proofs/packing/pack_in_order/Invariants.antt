-- What the loop of `pack_in_order` keeps.
use Rattle.co_pack.specs.Rooms.{IsPacking}
use Rattle.co_pack.proofs.packing.pack_in_order.Given as goal

abbrev pub invariant-loop-document : goal.invariant-loop-document
invariant-loop-document l = IsPacking l.size l.lengths l.order l.placed.items l.rooms.items l.tops.items l.document-index
