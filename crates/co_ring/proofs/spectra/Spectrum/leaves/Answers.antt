use Rattle.std.proofs.Common.{length, sym, ap, ◌∙◌}
use Rattle.co_ring.specs.Moduli.{value_of}
use Rattle.co_ring.specs.Spectra.{Values, in_order}
use Rattle.co_ring.proofs.Transforms.{below_within}
use Rattle.co_ring.proofs.Orderings.{view_length, own_levels}
use Rattle.co_ring.proofs.spectra.Spectrum.leaves.Goals as goal

pub returns-clause-len : goal.returns-clause-len
returns-clause-len c =
    let s = c.self.inside in
    ap length c.deref.ensures.value ∙ c.self.invariant.len ∙ sym (view_length s.levels s.leaves.items c.args.self.now.values (ap (λ (v : Values). v.values) c.self.view_is))

pub returns-clause-below : goal.returns-clause-below
returns-clause-below c =
    let s = c.self.inside in
    below_within (value_of c.args.self.now.modulus) (value_of s.modulus) s.leaves.items c.deref.result.now (ap (λ (v : Values). value_of v.modulus) (sym c.self.view_is)) c.deref.ensures.value c.self.invariant.below

pub returns-clause-ordered : goal.returns-clause-ordered
returns-clause-ordered c = λ l size.
    let s = c.self.inside in
    let view = ap (λ (v : Values). v.values) c.self.view_is in
    let levels = own_levels s.levels l s.leaves.items c.args.self.now.values view size in
    (λ i. in_order (sym levels i) (c.deref.ensures.value i)) ∙ view
