use Rattle.co_rounds.proofs.Rounds.{score_reply_spelled, records_reply_spelled, document_reply_spelled}
use Rattle.co_rounds.proofs.laws.replies_are_spelled.Goals as goal

pub returns-clause-score : goal.returns-clause-score
returns-clause-score c = score_reply_spelled

pub returns-clause-records : goal.returns-clause-records
returns-clause-records c = records_reply_spelled

pub returns-clause-document : goal.returns-clause-document
returns-clause-document c = document_reply_spelled
