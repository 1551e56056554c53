use Rattle.std.proofs.Common.{sym, ◌∙◌}
use Rattle.co_math.specs.Coefficients.{coefficients}
use Rattle.co_ring.specs.declared.moduli.Modulus.TheVariants.{First, Second}
use Rattle.co_rns.proofs.Wholes.{split_of, first_length_of, second_length_of}
use Rattle.co_rns.proofs.Spectra_agree.{part_values}
use Rattle.co_rns.proofs.spectra.to_spectrum.Goals as goal

pub forward-requires-clause-poly_degree : goal.forward-requires-clause-poly_degree
forward-requires-clause-poly_degree c = first_length_of (split_of c.pair.inside.first c.pair.inside.second c.pair.invariant c.pair.view_is) ∙ c.requires.pair_degree ∙ sym c.tables.view_is

pub forward-requires-2-clause-poly_degree : goal.forward-requires-2-clause-poly_degree
forward-requires-2-clause-poly_degree c = second_length_of (split_of c.pair.inside.first c.pair.inside.second c.pair.invariant c.pair.view_is) ∙ c.requires.pair_degree ∙ sym c.tables.view_is ∙ sym c.tables.invariant.one_degree

pub returns : goal.returns
returns c =
    let s = split_of c.pair.inside.first c.pair.inside.second c.pair.invariant c.pair.view_is in
    let t = c.tables.inside in
    record {
      first_values = part_values t.first.modulus First t.first.degree c.args.tables.now (coefficients c.pair.inside.first.coeffs) (coefficients c.args.pair.now) c.forward.new.into.values
          c.tables.invariant.first_modulus_is c.tables.view_is s.first_part c.forward.ensures.values;
      second_values = part_values t.second.modulus Second t.second.degree c.args.tables.now (coefficients c.pair.inside.second.coeffs) (coefficients c.args.pair.now) c.forward-2.new.into.values
          c.tables.invariant.second_modulus_is (c.tables.invariant.one_degree ∙ c.tables.view_is) s.second_part c.forward-2.ensures.values;
    }
