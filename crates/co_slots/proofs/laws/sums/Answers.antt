use Rattle.co_slots.proofs.Slotwise.{slot-plus}
use Rattle.co_slots.proofs.laws.sums.Goals as goal

pub returns : goal.returns
returns c = slot-plus
