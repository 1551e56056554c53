use Rattle.co_slots.proofs.Spelling.{payload-bytes_unique, payload-coeffs_unique}
use Rattle.co_slots.proofs.laws.payloads.Goals as goal

pub returns-clause-one_polynomial : goal.returns-clause-one_polynomial
returns-clause-one_polynomial c = payload-coeffs_unique

pub returns-clause-one_text : goal.returns-clause-one_text
returns-clause-one_text c = payload-bytes_unique
