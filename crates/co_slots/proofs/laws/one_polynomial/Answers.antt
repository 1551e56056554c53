use Rattle.co_slots.proofs.Slotwise.{slots_unique}
use Rattle.co_slots.proofs.laws.one_polynomial.Goals as goal

pub returns : goal.returns
returns c = slots_unique
