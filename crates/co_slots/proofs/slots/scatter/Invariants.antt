use Rattle.std.proofs.Common.{◌≡◌, length}
use Rattle.co_ring.specs.declared.moduli.Modulus.TheVariants.{Plain}
use Rattle.co_slots.specs.Slots.{AreScattered}
use Rattle.co_slots.proofs.slots.scatter.Given as goal

abbrev pub invariant-loop-p : goal.invariant-loop-p
invariant-loop-p l = record {
  plain : l.into.modulus ≡ Plain;
  scattered : AreScattered (length l.values) l.p l.values l.into.values;
}
