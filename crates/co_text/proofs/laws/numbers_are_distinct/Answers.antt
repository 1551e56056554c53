use Rattle.co_text.proofs.Numbered.{numbers_once, numbers_within, numbers_few}
use Rattle.co_text.proofs.laws.numbers_are_distinct.Goals as goal

pub returns-clause-once : goal.returns-clause-once
returns-clause-once c = numbers_once

pub returns-clause-within : goal.returns-clause-within
returns-clause-within c = numbers_within

pub returns-clause-few : goal.returns-clause-few
returns-clause-few c = numbers_few
