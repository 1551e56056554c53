use Rattle.co_tfidf.specs.Vocabulary.{vocabulary}
use Rattle.co_tfidf.proofs.VocabularyLaw.{is_vocabulary, one_vocabulary}
use Rattle.co_tfidf.proofs.laws.one_vocabulary.Goals as goal

pub returns-clause-is : goal.returns-clause-is
returns-clause-is c = λ most documents. is_vocabulary documents most

pub returns-clause-only : goal.returns-clause-only
returns-clause-only c = λ most documents ws are. one_vocabulary documents most ws (vocabulary most documents) are (is_vocabulary documents most)
