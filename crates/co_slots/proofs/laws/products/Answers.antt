use Rattle.co_slots.proofs.Slotwise.{slot-product}
use Rattle.co_slots.proofs.laws.products.Goals as goal

pub returns : goal.returns
returns c = slot-product
