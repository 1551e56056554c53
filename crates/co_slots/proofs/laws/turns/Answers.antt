use Rattle.co_slots.proofs.Slotwise.{first_row_turned, second_row_turned}
use Rattle.co_slots.proofs.laws.turns.Goals as goal

pub returns-clause-first_row : goal.returns-clause-first_row
returns-clause-first_row c = first_row_turned

pub returns-clause-second_row : goal.returns-clause-second_row
returns-clause-second_row c = second_row_turned
