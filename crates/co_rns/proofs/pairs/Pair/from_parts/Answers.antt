use Rattle.std.proofs.Common.{refl}
use Rattle.co_rns.proofs.Wholes.{whole, first_residues, second_residues, parts_pair}
use Rattle.co_rns.specs.Residue_pairs.{all_composed}
use Rattle.co_rns.proofs.pairs.Pair.from_parts.Goals as goal

pub returns-clause-whole : goal.returns-clause-whole
returns-clause-whole c = whole c.args.first c.args.second (parts_pair c.args.first c.args.second c.requires.first_modulus c.requires.second_modulus c.requires.one_degree c.degree.ensures.valid c.degree-2.ensures.valid) (all_composed c.args.first.coeffs c.args.second.coeffs) refl

pub returns-clause-first_residues : goal.returns-clause-first_residues
returns-clause-first_residues c = first_residues c.args.first c.args.second (parts_pair c.args.first c.args.second c.requires.first_modulus c.requires.second_modulus c.requires.one_degree c.degree.ensures.valid c.degree-2.ensures.valid) (all_composed c.args.first.coeffs c.args.second.coeffs) refl

pub returns-clause-second_residues : goal.returns-clause-second_residues
returns-clause-second_residues c = second_residues c.args.first c.args.second (parts_pair c.args.first c.args.second c.requires.first_modulus c.requires.second_modulus c.requires.one_degree c.degree.ensures.valid c.degree-2.ensures.valid) (all_composed c.args.first.coeffs c.args.second.coeffs) refl
