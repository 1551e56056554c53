use Rattle.co_math.specs.Parameters.{q}
use Rattle.co_math.proofs.Residue_lists.{residues_of-is}
use Rattle.co_rns.proofs.Spectra_agree.{gathered_reduced}
use Rattle.co_rns.proofs.sums.PairSum.polynomial.Goals as goal

pub returns-clause-value : goal.returns-clause-value
returns-clause-value c f h =
    residues_of-is q c.args.tables.now f _ (c.from_spectrum.ensures.back f (gathered_reduced c.args.tables.now f _ c.reduce.new.into h c.reduce.ensures))
