use Rattle.co_tfidf.proofs.Scores.{query_score-is, numbers_score, query_score_le}
use Rattle.co_tfidf.proofs.laws.scores_add_up.Goals as goal

pub returns-clause-terms : goal.returns-clause-terms
returns-clause-terms c = query_score-is

pub returns-clause-numbers : goal.returns-clause-numbers
returns-clause-numbers c = numbers_score

pub returns-clause-few : goal.returns-clause-few
returns-clause-few c = query_score_le
