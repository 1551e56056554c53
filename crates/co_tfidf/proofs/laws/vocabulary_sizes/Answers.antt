use Rattle.co_tfidf.proofs.VocabularyTerms.{length-vocabulary, vocabulary_sized}
use Rattle.co_tfidf.proofs.laws.vocabulary_sizes.Goals as goal

pub returns-clause-few : goal.returns-clause-few
returns-clause-few c = length-vocabulary

pub returns-clause-sized : goal.returns-clause-sized
returns-clause-sized c = vocabulary_sized
