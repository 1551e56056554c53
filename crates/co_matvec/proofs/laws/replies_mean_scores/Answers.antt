use Rattle.co_matvec.proofs.Lawful.{replies_mean}
use Rattle.co_matvec.proofs.laws.replies_mean_scores.Goals as goal

pub returns : goal.returns
returns c = replies_mean
