use Rattle.std.proofs.Common.{arith}
use Rattle.co_rns.proofs.Wholes.{split_of}
use Rattle.co_rns.proofs.pairs.Pair.compose.Goals as goal

pub compose_at-requires-clause-in_range : goal.compose_at-requires-clause-in_range
compose_at-requires-clause-in_range c = let s = split_of c.self.inside.first c.self.inside.second c.self.invariant c.self.view_is in omega (arith, s.first_length, c.requires)
