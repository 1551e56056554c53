use Rattle.co_rns.proofs.Wholes.{second_residues}
use Rattle.co_rns.proofs.pairs.Pair.second.Goals as goal

pub returns-clause-residues : goal.returns-clause-residues
returns-clause-residues c = second_residues c.self.inside.first c.self.inside.second c.self.invariant c.args.self.now c.self.view_is
