use Rattle.std.proofs.Common.{◌∙◌}
use Rattle.co_rns.proofs.Wholes.{split_of}
use Rattle.co_rns.proofs.pairs.Pair.degree.Goals as goal

pub returns-clause-value : goal.returns-clause-value
returns-clause-value c = let s = split_of c.self.inside.first c.self.inside.second c.self.invariant c.self.view_is in c.degree.ensures.value ∙ s.first_length

pub returns-clause-whole : goal.returns-clause-whole
returns-clause-whole c = let s = split_of c.self.inside.first c.self.inside.second c.self.invariant c.self.view_is in s.whole_value
