use Rattle.std.proofs.Common.{◌≡◌, ℕ, List, sym, ap, subst, ◌∙◌}
use Rattle.co_math.specs.Coefficients.{coefficients}
use Rattle.co_ring.specs.declared.moduli.Modulus.{Modulus}
use Rattle.co_ring.specs.Moduli.{value_of}
use Rattle.co_ring.specs.Spectra.{Values, in_order, AreLeaves, AreValues}
use Rattle.co_ring.proofs.Keeping.{written_back}
use Rattle.co_ring.proofs.Orderings.{leaves_count, leaves_degree, leaves_are, values_are}
use Rattle.co_ring.proofs.spectra.forward_coeffs.Goals as goal

pub values_of-requires-clause-whole : goal.values_of-requires-clause-whole
values_of-requires-clause-whole c =
    leaves_count c.into.inside.levels _ c.into.inside.leaves.items c.deref_mut.result.now c.args.into.now c.deref_mut.ensures.value c.into.invariant.len (ap (λ (s : Values). s.values) c.into.view_is) c.requires.into_degree

pub invariant_of-into : goal.invariant_of-into
invariant_of-into c =
    let t = c.into.inside in
    let size = leaves_degree t.levels c.args.table.now.degree t.leaves.items c.args.into.now (ap (λ (s : Values). s.values) c.into.view_is) c.requires.into_degree in
    let whole = leaves_count t.levels c.args.table.now.degree t.leaves.items c.deref_mut.result.now c.args.into.now c.deref_mut.ensures.value c.into.invariant.len (ap (λ (s : Values). s.values) c.into.view_is) c.requires.into_degree in
    let same : c.args.table.now.modulus ≡ t.modulus = sym (ap (λ (s : Values). s.modulus) c.into.view_is ∙ c.requires.into_modulus) in
    let made : AreLeaves t.modulus t.levels c.values_of.new.into = subst (λ (m : Modulus). AreLeaves m t.levels c.values_of.new.into) same
    (leaves_are c.args.table.now.modulus t.levels c.args.table.now.degree c.args.coeffs.now c.values_of.new.into c.into.invariant.least c.into.invariant.most size c.values_of.ensures) in
    subst (AreLeaves t.modulus t.levels) (sym (written_back t.leaves.len t.leaves.items c.values_of.new.into (c.values_of.ensures.len ∙ sym whole ∙ c.deref_mut.ensures.len))) made

pub returns : goal.returns
returns c =
    let t = c.into.inside in
    let n = c.args.table.now.degree in
    let size = leaves_degree t.levels n t.leaves.items c.args.into.now (ap (λ (s : Values). s.values) c.into.view_is) c.requires.into_degree in
    let whole = leaves_count t.levels c.args.table.now.degree t.leaves.items c.deref_mut.result.now c.args.into.now c.deref_mut.ensures.value c.into.invariant.len (ap (λ (s : Values). s.values) c.into.view_is) c.requires.into_degree in
    let values = values_are c.args.table.now.modulus t.levels n c.args.coeffs.now c.values_of.new.into c.into.invariant.least c.into.invariant.most size c.values_of.ensures in
    record {
      one_modulus = ap (λ (s : Values). s.modulus) c.into.view_is ∙ c.requires.into_modulus;
      values = subst (λ (ys : List ℕ). AreValues (value_of c.args.table.now.modulus) n (coefficients c.args.coeffs.now) (in_order t.levels ys))
          (sym (written_back t.leaves.len t.leaves.items c.values_of.new.into (c.values_of.ensures.len ∙ sym whole ∙ c.deref_mut.ensures.len))) values;
    }
