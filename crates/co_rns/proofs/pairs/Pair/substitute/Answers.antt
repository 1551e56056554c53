use Rattle.std.proofs.Common.{arith}
use Rattle.co_rns.proofs.Wholes.{split_of, first_lengths, second_lengths, substituted_result}
use Rattle.co_rns.proofs.pairs.Pair.substitute.Goals as goal

pub substitute-requires-clause-within : goal.substitute-requires-clause-within
substitute-requires-clause-within c = let s = split_of c.self.inside.first c.self.inside.second c.self.invariant c.self.view_is in omega (arith, s.first_length, c.requires.within)

pub substitute-requires-clause-one_degree : goal.substitute-requires-clause-one_degree
substitute-requires-clause-one_degree c = first_lengths _ _ _ _ c.self.invariant c.self.view_is c.into.invariant c.into.view_is c.requires.one_degree

pub substitute-requires-2-clause-within : goal.substitute-requires-2-clause-within
substitute-requires-2-clause-within c = let s = split_of c.self.inside.first c.self.inside.second c.self.invariant c.self.view_is in omega (arith, s.second_length, c.requires.within)

pub substitute-requires-2-clause-one_degree : goal.substitute-requires-2-clause-one_degree
substitute-requires-2-clause-one_degree c = second_lengths _ _ _ _ c.self.invariant c.self.view_is c.into.invariant c.into.view_is c.requires.one_degree

pub returns : goal.returns
returns c = substituted_result (split_of c.self.inside.first c.self.inside.second c.self.invariant c.self.view_is) c.args.g _ _ c.substitute.ensures.coeffs c.substitute-2.ensures.coeffs
