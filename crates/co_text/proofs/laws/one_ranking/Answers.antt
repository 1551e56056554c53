use Rattle.co_text.specs.Ranking.{ranking}
use Rattle.co_text.proofs.Rankings.{is_ranking, one_ranking}
use Rattle.co_text.proofs.laws.one_ranking.Goals as goal

pub returns-clause-is : goal.returns-clause-is
returns-clause-is c = is_ranking

pub returns-clause-only : goal.returns-clause-only
returns-clause-only c = λ most scores hits is. one_ranking most scores hits (ranking most scores) is (is_ranking most scores)
