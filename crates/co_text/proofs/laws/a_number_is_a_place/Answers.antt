use Rattle.co_text.proofs.Numbered.{number_known, number_unknown, number_placed}
use Rattle.co_text.proofs.laws.a_number_is_a_place.Goals as goal

pub returns-clause-known : goal.returns-clause-known
returns-clause-known c = number_known

pub returns-clause-unknown : goal.returns-clause-unknown
returns-clause-unknown c = number_unknown

pub returns-clause-placed : goal.returns-clause-placed
returns-clause-placed c = number_placed
