use Rattle.std.proofs.Common.{sym, ◌∙◌}
use Rattle.co_rns.proofs.Wholes.{split_back}
use Rattle.co_rns.proofs.laws.residues.Goals as goal

pub returns : goal.returns
returns c = λ cs ds xs ys a b x y z w. sym (split_back cs xs ys a x y) ∙ split_back ds xs ys b z w
