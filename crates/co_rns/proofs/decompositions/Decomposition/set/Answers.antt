use Rattle.std.proofs.Common.{◌≡◌, ℕ, List, length, sym, ap, subst, ◌∙◌}
use Rattle.co_ring.proofs.Keeping.{written_back}
use Rattle.co_rns.specs.Residue_pairs.{all_composed}
use Rattle.co_rns.specs.Pairs.{IsDecomposition}
use Rattle.co_rns.proofs.Wholes.{split_of, whole}
use Rattle.co_rns.proofs.decompositions.Decomposition.set.Goals as goal

pub compose_all-requires-clause-into_degree : goal.compose_all-requires-clause-into_degree
compose_all-requires-clause-into_degree c =
    let s = split_of c.pair.inside.first c.pair.inside.second c.pair.invariant c.pair.view_is in
    ap length c.deref_mut.ensures.value ∙ ap length c.self.view_is ∙ sym c.requires ∙ sym s.first_length

pub invariant_of-self : goal.invariant_of-self
invariant_of-self c =
    let t = c.self.inside in
    let p = c.pair.inside in
    let s = split_of p.first p.second c.pair.invariant c.pair.view_is in
    let all = all_composed p.first.coeffs p.second.coeffs in
    let len : length c.compose_all.new.into ≡ t.coeffs.len = ap length (c.compose_all.ensures ∙ c.pair.view_is) ∙ c.requires ∙ sym (ap length c.self.view_is) ∙ sym (ap length c.deref_mut.ensures.value) ∙ c.deref_mut.ensures.len in
    let back = written_back t.coeffs.len t.coeffs.items c.compose_all.new.into len in
    let is = back ∙ c.compose_all.ensures ∙ c.pair.view_is in
    subst (λ (xs : List ℕ). IsDecomposition xs t.digits.items) (sym is) (record {
      whole = whole p.first p.second c.pair.invariant c.args.pair.now c.pair.view_is;
      one_degree = c.self.invariant.one_degree ∙ ap length c.self.view_is ∙ sym c.requires;
    })

pub returns : goal.returns
returns c =
    let t = c.self.inside in
    let len : length c.compose_all.new.into ≡ t.coeffs.len = ap length (c.compose_all.ensures ∙ c.pair.view_is) ∙ c.requires ∙ sym (ap length c.self.view_is) ∙ sym (ap length c.deref_mut.ensures.value) ∙ c.deref_mut.ensures.len in
    written_back t.coeffs.len t.coeffs.items c.compose_all.new.into len ∙ c.compose_all.ensures ∙ c.pair.view_is
