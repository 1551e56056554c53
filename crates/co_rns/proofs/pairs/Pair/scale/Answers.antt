use Rattle.std.proofs.Common.{pos}
use Rattle.co_rns.proofs.Wholes.{split_of, scaled_result}
use Rattle.co_rns.proofs.pairs.Pair.scale.Goals as goal

pub invariant_of-self : goal.invariant_of-self
invariant_of-self c = (scaled_result (split_of c.self.inside.first c.self.inside.second c.self.invariant c.self.view_is) (pos c.args.factor) _ _ c.scale.ensures c.scale-2.ensures).pair

pub returns : goal.returns
returns c = (scaled_result (split_of c.self.inside.first c.self.inside.second c.self.invariant c.self.view_is) (pos c.args.factor) _ _ c.scale.ensures c.scale-2.ensures).residues
