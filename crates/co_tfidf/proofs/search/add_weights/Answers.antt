-- One weight more is added.
use Rattle.std.proofs.Common.{arith}
use Rattle.std.proofs.lemmas.Grind.{common_steps}
use Rattle.co_tfidf.proofs.search.add_weights.Goals as goal

pub loop-document-preserved : goal.loop-document-preserved
loop-document-preserved c = λ d. grind (arith, common_steps, c.loop-document.invariant d)
