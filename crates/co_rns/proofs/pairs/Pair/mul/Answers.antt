use Rattle.co_rns.proofs.Wholes.{split_of, one_length, one_length_second, product_result}
use Rattle.co_rns.proofs.pairs.Pair.mul.Goals as goal

pub mul-requires-clause-one_degree : goal.mul-requires-clause-one_degree
mul-requires-clause-one_degree c = one_length (split_of c.self.inside.first c.self.inside.second c.self.invariant c.self.view_is) (split_of c.other.inside.first c.other.inside.second c.other.invariant c.other.view_is) c.requires

pub mul-requires-2-clause-one_degree : goal.mul-requires-2-clause-one_degree
mul-requires-2-clause-one_degree c = one_length_second (split_of c.self.inside.first c.self.inside.second c.self.invariant c.self.view_is) (split_of c.other.inside.first c.other.inside.second c.other.invariant c.other.view_is) c.requires

pub returns : goal.returns
returns c =
    let r = split_of c.other.inside.first c.other.inside.second c.other.invariant c.other.view_is in
    (product_result (split_of c.self.inside.first c.self.inside.second c.self.invariant c.self.view_is) _ _ _ _ _ c.in_ok-mul.ensures c.in_ok-mul-2.ensures r.first_part r.second_part).residues
