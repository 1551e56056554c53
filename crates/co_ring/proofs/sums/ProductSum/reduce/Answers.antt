use Rattle.std.proofs.Common.{◌≡◌, ℕ, List, length, sym, ap, subst, ◌∙◌}
use Rattle.co_ring.specs.Moduli.{value_of}
use Rattle.co_ring.specs.Spectra.{Values, in_order, AreLeaves}
use Rattle.co_ring.specs.Product_sums.{Sums, AreReduced}
use Rattle.co_ring.proofs.Keeping.{written_back}
use Rattle.co_ring.proofs.Orderings.{one_levels, same_levels}
use Rattle.co_ring.proofs.Summing.{reduced_in_order, reduced_leaves}
use Rattle.co_ring.proofs.sums.ProductSum.reduce.Goals as goal

pub reduce_sums-requires-clause-one_length : goal.reduce_sums-requires-clause-one_length
reduce_sums-requires-clause-one_length c =
    let one = one_levels c.self.inside.levels c.into.inside.levels c.self.inside.leaves.items c.into.inside.leaves.items c.args.self.now.values c.args.into.now.values (ap (λ (s : Sums). s.values) c.self.view_is) (ap (λ (s : Values). s.values) c.into.view_is) c.requires.one_degree in
    ap length c.deref_mut.ensures.value ∙ c.into.invariant.len ∙ one ∙ sym c.self.invariant.len ∙ sym (ap length c.deref.ensures.value)

pub invariant_of-into : goal.invariant_of-into
invariant_of-into c =
    let t = c.into.inside in
    let s = c.self.inside in
    let one = one_levels c.self.inside.levels c.into.inside.levels c.self.inside.leaves.items c.into.inside.leaves.items c.args.self.now.values c.args.into.now.values (ap (λ (s : Sums). s.values) c.self.view_is) (ap (λ (s : Values). s.values) c.into.view_is) c.requires.one_degree in
    let size = ap length c.deref.ensures.value ∙ c.self.invariant.len in
    let ys = c.reduce_sums.new.into in
    let same : t.modulus ≡ s.modulus = ap (λ (s : Values). s.modulus) c.into.view_is ∙ c.requires.one_modulus ∙ sym (ap (λ (s : Sums). s.modulus) c.self.view_is) in
    let by : c.reducer_of-by.result.q ≡ value_of t.modulus = c.reducer_of-by.ensures.modulus ∙ c.value.ensures.value ∙ ap value_of (sym same) in
    let one_length : length c.deref_mut.result.now ≡ length c.deref.result.now = ap length c.deref_mut.ensures.value ∙ c.into.invariant.len ∙ one ∙ sym size in
    subst (AreLeaves t.modulus t.levels) (sym (written_back t.leaves.len t.leaves.items ys (c.reduce_sums.ensures.len ∙ sym one_length ∙ c.deref_mut.ensures.len)))
    (reduced_leaves t.modulus t.levels c.reducer_of-by.result.q c.deref.result.now t.leaves.items ys c.into.invariant by (size ∙ sym one) c.reduce_sums.ensures)

pub returns-clause-values : goal.returns-clause-values
returns-clause-values c =
    let t = c.into.inside in
    let s = c.self.inside in
    let own = ap (λ (s : Sums). s.values) c.self.view_is in
    let one = one_levels c.self.inside.levels c.into.inside.levels c.self.inside.leaves.items c.into.inside.leaves.items c.args.self.now.values c.args.into.now.values own (ap (λ (s : Values). s.values) c.into.view_is) c.requires.one_degree in
    let size = ap length c.deref.ensures.value ∙ c.self.invariant.len in
    let ys = c.reduce_sums.new.into in
    let v = value_of c.args.self.now.modulus in
    let one_length : length c.deref_mut.result.now ≡ length c.deref.result.now = ap length c.deref_mut.ensures.value ∙ c.into.invariant.len ∙ one ∙ sym size in
    let by : c.reducer_of-by.result.q ≡ v = c.reducer_of-by.ensures.modulus ∙ c.value.ensures.value ∙ ap (λ (s : Sums). value_of s.modulus) c.self.view_is in
    let first : in_order s.levels c.deref.result.now ≡ c.args.self.now.values = ap (in_order s.levels) c.deref.ensures.value ∙ own in
    let level : s.levels ≡ t.levels = same_levels s.levels t.levels (sym one) in
    subst (λ (zs : List ℕ). AreReduced v c.args.self.now.values (in_order t.levels zs)) (sym (written_back t.leaves.len t.leaves.items ys (c.reduce_sums.ensures.len ∙ sym one_length ∙ c.deref_mut.ensures.len)))
    (subst (λ (l : ℕ). AreReduced v c.args.self.now.values (in_order l ys)) level
    (subst (λ (xs : List ℕ). AreReduced v xs (in_order s.levels ys)) first
    (reduced_in_order s.levels c.reducer_of-by.result.q v c.deref.result.now ys by size c.reduce_sums.ensures)))
