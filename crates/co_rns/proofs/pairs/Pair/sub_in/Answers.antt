use Rattle.co_rns.proofs.Wholes.{split_of, first_lengths, second_lengths, minus_result}
use Rattle.co_rns.proofs.pairs.Pair.sub_in.Goals as goal

pub sub_in-requires-clause-one_degree : goal.sub_in-requires-clause-one_degree
sub_in-requires-clause-one_degree c = first_lengths _ _ _ _ c.self.invariant c.self.view_is c.other.invariant c.other.view_is c.requires

pub sub_in-requires-2-clause-one_degree : goal.sub_in-requires-2-clause-one_degree
sub_in-requires-2-clause-one_degree c = second_lengths _ _ _ _ c.self.invariant c.self.view_is c.other.invariant c.other.view_is c.requires

pub invariant_of-self : goal.invariant_of-self
invariant_of-self c = (minus_result (split_of c.self.inside.first c.self.inside.second c.self.invariant c.self.view_is) (split_of c.other.inside.first c.other.inside.second c.other.invariant c.other.view_is) _ _ c.sub_in.ensures c.sub_in-2.ensures).pair

pub returns : goal.returns
returns c = (minus_result (split_of c.self.inside.first c.self.inside.second c.self.invariant c.self.view_is) (split_of c.other.inside.first c.other.inside.second c.other.invariant c.other.view_is) _ _ c.sub_in.ensures c.sub_in-2.ensures).residues
