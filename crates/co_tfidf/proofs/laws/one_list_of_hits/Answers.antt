use Rattle.co_tfidf.proofs.HitsLaw.{are_hits, only_hits}
use Rattle.co_tfidf.proofs.laws.one_list_of_hits.Goals as goal

pub returns-clause-is : goal.returns-clause-is
returns-clause-is c = are_hits

pub returns-clause-only : goal.returns-clause-only
returns-clause-only c = only_hits
