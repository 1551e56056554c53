use Rattle.co_slots.specs.Slots.{ArePlaces}
use Rattle.co_slots.proofs.slots.places.Given as goal

abbrev pub invariant-loop-p : goal.invariant-loop-p
invariant-loop-p l = ArePlaces l.n l.p l.all.items
