use Rattle.co_rns.proofs.Wholes.{first_residues}
use Rattle.co_rns.proofs.pairs.Pair.first.Goals as goal

pub returns-clause-residues : goal.returns-clause-residues
returns-clause-residues c = first_residues c.self.inside.first c.self.inside.second c.self.invariant c.args.self.now c.self.view_is
