use Rattle.std.proofs.Common.{refl, sym, ap, subst, ◌∙◌}
use Rattle.co_math.specs.Coefficients.{coefficients}
use Rattle.co_rns.specs.Residue_pairs.{all_composed}
use Rattle.co_math.specs.Parameters.{first_modulus, second_modulus}
use Rattle.co_ring.specs.declared.moduli.Modulus.TheVariants.{First, Second}
use Rattle.co_ring.specs.Spectra.{AreValues}
use Rattle.co_rns.specs.Spectra.{PairValues}
use Rattle.co_rns.proofs.Composing.{length-all_composed}
use Rattle.co_rns.proofs.Wholes.{split_of, combined, constant_agree, parts_pair}
use Rattle.co_rns.proofs.Spectra_agree.{part_values}
use Rattle.co_rns.proofs.spectra.from_spectrum.Goals as goal

pub inverse-requires-clause-into_degree : goal.inverse-requires-clause-into_degree
inverse-requires-clause-into_degree c =
    let s = split_of c.into.inside.first c.into.inside.second c.into.invariant c.into.view_is in
    s.first_length ∙ c.requires.into_degree ∙ sym c.tables.view_is

pub inverse-requires-2-clause-into_degree : goal.inverse-requires-2-clause-into_degree
inverse-requires-2-clause-into_degree c =
    let s = split_of c.into.inside.first c.into.inside.second c.into.invariant c.into.view_is in
    s.second_length ∙ c.requires.into_degree ∙ sym c.tables.view_is ∙ sym c.tables.invariant.one_degree

pub returns-clause-degree : goal.returns-clause-degree
returns-clause-degree c =
    let a = c.inverse.new.into.coeffs in
    let b = c.inverse-2.new.into.coeffs in
    length-all_composed a b (c.inverse-2.ensures.degree ∙ c.tables.invariant.one_degree ∙ sym c.inverse.ensures.degree) ∙ c.inverse.ensures.degree ∙ c.tables.view_is

pub returns-clause-back : goal.returns-clause-back
returns-clause-back c = λ f v.
    let t = c.tables.inside in
    let n = c.args.tables.now in
    let xs = c.values.inside.first.values in
    let ys = c.values.inside.second.values in
    let first_degree = c.tables.view_is in
    let second_degree = c.tables.invariant.one_degree ∙ c.tables.view_is in
    let x : AreValues first_modulus n f xs = subst (AreValues first_modulus n f) (sym (ap (λ (s : PairValues). s.first) c.values.view_is)) v.first_values in
    let y : AreValues second_modulus n f ys = subst (AreValues second_modulus n f) (sym (ap (λ (s : PairValues). s.second) c.values.view_is)) v.second_values in
    combined n t.first.degree t.second.degree f f t.first.modulus t.second.modulus c.inverse.new.into c.inverse-2.new.into
    c.tables.invariant.first_modulus_is c.tables.invariant.second_modulus_is first_degree second_degree
    (c.inverse.ensures.back f (part_values First t.first.modulus n t.first.degree f f xs (sym c.tables.invariant.first_modulus_is) (sym first_degree) (constant_agree _ f) x))
    (c.inverse-2.ensures.back f (part_values Second t.second.modulus n t.second.degree f f ys (sym c.tables.invariant.second_modulus_is) (sym second_degree) (constant_agree _ f) y))
    f (constant_agree first_modulus f) (constant_agree second_modulus f)

pub returns-clause-values : goal.returns-clause-values
returns-clause-values c =
    let t = c.tables.inside in
    let n = c.args.tables.now in
    let a = c.inverse.new.into in
    let b = c.inverse-2.new.into in
    let pair = parts_pair a b (c.inverse.ensures.modulus ∙ c.tables.invariant.first_modulus_is) (c.inverse-2.ensures.modulus ∙ c.tables.invariant.second_modulus_is)
    (c.inverse-2.ensures.degree ∙ c.tables.invariant.one_degree ∙ sym c.inverse.ensures.degree) c.degree.ensures.valid c.degree-2.ensures.valid in
    let s = split_of a b pair refl in
    let f = coefficients (all_composed a.coeffs b.coeffs) in
    let x = part_values t.first.modulus First t.first.degree n (coefficients a.coeffs) f c.values.inside.first.values c.tables.invariant.first_modulus_is c.tables.view_is s.first_part c.inverse.ensures.values.values in
    let y = part_values t.second.modulus Second t.second.degree n (coefficients b.coeffs) f c.values.inside.second.values c.tables.invariant.second_modulus_is (c.tables.invariant.one_degree ∙ c.tables.view_is) s.second_part c.inverse-2.ensures.values.values in
    record {
      first_values = subst (AreValues first_modulus n f) (ap (λ (s : PairValues). s.first) c.values.view_is) x;
      second_values = subst (AreValues second_modulus n f) (ap (λ (s : PairValues). s.second) c.values.view_is) y;
    }
