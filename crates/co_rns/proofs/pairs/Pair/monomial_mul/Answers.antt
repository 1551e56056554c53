use Rattle.std.proofs.Common.{arith}
use Rattle.co_rns.proofs.Wholes.{split_of, one_length, one_length_second, shifted_result}
use Rattle.co_rns.proofs.pairs.Pair.monomial_mul.Goals as goal

pub monomial_mul-requires-clause-within : goal.monomial_mul-requires-clause-within
monomial_mul-requires-clause-within c = let s = split_of c.self.inside.first c.self.inside.second c.self.invariant c.self.view_is in omega (arith, s.first_length, c.requires.within)

pub monomial_mul-requires-clause-one_degree : goal.monomial_mul-requires-clause-one_degree
monomial_mul-requires-clause-one_degree c = one_length (split_of c.self.inside.first c.self.inside.second c.self.invariant c.self.view_is) (split_of c.into.inside.first c.into.inside.second c.into.invariant c.into.view_is) c.requires.one_degree

pub monomial_mul-requires-2-clause-within : goal.monomial_mul-requires-2-clause-within
monomial_mul-requires-2-clause-within c = let s = split_of c.self.inside.first c.self.inside.second c.self.invariant c.self.view_is in omega (arith, s.second_length, c.requires.within)

pub monomial_mul-requires-2-clause-one_degree : goal.monomial_mul-requires-2-clause-one_degree
monomial_mul-requires-2-clause-one_degree c = one_length_second (split_of c.self.inside.first c.self.inside.second c.self.invariant c.self.view_is) (split_of c.into.inside.first c.into.inside.second c.into.invariant c.into.view_is) c.requires.one_degree

pub invariant_of-into : goal.invariant_of-into
invariant_of-into c = (shifted_result (split_of c.self.inside.first c.self.inside.second c.self.invariant c.self.view_is) c.args.exponent _ _ c.monomial_mul.ensures c.monomial_mul-2.ensures).pair

pub returns : goal.returns
returns c = (shifted_result (split_of c.self.inside.first c.self.inside.second c.self.invariant c.self.view_is) c.args.exponent _ _ c.monomial_mul.ensures c.monomial_mul-2.ensures).residues
