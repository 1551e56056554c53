use Rattle.co_rounds.proofs.Rounds.{document_round}
use Rattle.co_rounds.proofs.laws.document_round_opens.Goals as goal

pub returns : goal.returns
returns c = document_round
