use Rattle.co_rounds.proofs.Rounds.{text_read}
use Rattle.co_rounds.proofs.laws.texts_are_read.Goals as goal

pub returns : goal.returns
returns c = text_read
