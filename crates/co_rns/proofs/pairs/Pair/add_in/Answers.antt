use Rattle.co_rns.proofs.Wholes.{split_of, one_length, one_length_second, plus_result}
use Rattle.co_rns.proofs.pairs.Pair.add_in.Goals as goal

pub add_in-requires-clause-one_degree : goal.add_in-requires-clause-one_degree
add_in-requires-clause-one_degree c = one_length (split_of c.self.inside.first c.self.inside.second c.self.invariant c.self.view_is) (split_of c.other.inside.first c.other.inside.second c.other.invariant c.other.view_is) c.requires

pub add_in-requires-2-clause-one_degree : goal.add_in-requires-2-clause-one_degree
add_in-requires-2-clause-one_degree c = one_length_second (split_of c.self.inside.first c.self.inside.second c.self.invariant c.self.view_is) (split_of c.other.inside.first c.other.inside.second c.other.invariant c.other.view_is) c.requires

pub invariant_of-self : goal.invariant_of-self
invariant_of-self c = (plus_result (split_of c.self.inside.first c.self.inside.second c.self.invariant c.self.view_is) (split_of c.other.inside.first c.other.inside.second c.other.invariant c.other.view_is) _ _ c.add_in.ensures c.add_in-2.ensures).pair

pub returns : goal.returns
returns c = (plus_result (split_of c.self.inside.first c.self.inside.second c.self.invariant c.self.view_is) (split_of c.other.inside.first c.other.inside.second c.other.invariant c.other.view_is) _ _ c.add_in.ensures c.add_in-2.ensures).residues
