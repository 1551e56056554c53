use Rattle.std.proofs.Common.{◌≡◌, length}
use Rattle.co_slots.specs.Slots.{AreScattered}
use Rattle.co_slots.proofs.slots.gather.Given as goal

abbrev pub invariant-loop-p : goal.invariant-loop-p
invariant-loop-p l = record {
  len : length l.into ≡ length l.initial.into;
  gathered : AreScattered (length l.initial.into) l.p l.into l.values.values;
}
