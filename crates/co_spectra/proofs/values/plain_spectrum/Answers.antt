-- A list of residues has the values of what they are the residues of.
use Rattle.co_math.specs.Coefficients.{coefficients}
use Rattle.co_rns.specs.Residue_pairs.{centred_coefficients}
use Rattle.co_spectra.proofs.Agreeing.{spectrum_low, residues_low}
use Rattle.co_spectra.proofs.values.plain_spectrum.Goals as goal

pub returns : goal.returns
returns c = record {
  len = c.requires.degree;
  values =
      spectrum_low c.args.tables.now (coefficients c.in_ok-whole.whole) (centred_coefficients c.args.plain.now.coeffs) c.to_spectrum.new.into
      (residues_low c.args.tables.now _ (centred_coefficients c.args.plain.now.coeffs) c.in_ok-whole.whole c.requires.degree c.in_ok-whole.ensures)
      c.to_spectrum.ensures;
}
