use Rattle.co_tfidf.proofs.Scores.{at_number}
use Rattle.co_tfidf.proofs.laws.entries_show_weights.Goals as goal

pub returns : goal.returns
returns c = at_number
