use Rattle.std.proofs.Common.{◌≡◌, ◌<◌, ◌^◌, set, sym, ap, subst, ◌∙◌, arith}
use Rattle.co_math.specs.Exponents.{bit_reversal}
use Rattle.co_transform.proofs.Reversals.{bit_reversal-lt, bit_reversal-twice}
use Rattle.co_ring.specs.Moduli.{value_of}
use Rattle.co_ring.specs.Spectra.{Values, in_order}
use Rattle.co_ring.proofs.Orderings.{in_order-set, set_leaves, view_length, own_levels}
use Rattle.co_ring.proofs.spectra.Spectrum.set_leaf.Goals as goal

pub index_mut-requires : goal.index_mut-requires
index_mut-requires c =
    let s = c.self.inside in
    omega (arith, s.leaves.ok.0, c.self.invariant.len, view_length s.levels s.leaves.items c.args.self.now.values (ap (λ (v : Values). v.values) c.self.view_is), c.requires.in_range)

pub invariant_of-self : goal.invariant_of-self
invariant_of-self c =
    let s = c.self.inside in
    let below = subst (λ (v : Values). c.args.value < value_of v.modulus) (sym c.self.view_is) c.requires.reduced in
    set_leaves s.modulus s.levels c.args.at c.args.value s.leaves.items c.self.invariant below

pub returns : goal.returns
returns c = λ l size.
    let s = c.self.inside in
    let own = ap (λ (v : Values). v.values) c.self.view_is in
    let levels = own_levels s.levels l s.leaves.items c.args.self.now.values own size in
    let within : c.args.at < 2 ^ s.levels = omega (arith, c.requires.in_range, view_length s.levels s.leaves.items c.args.self.now.values own) in
    let moved : in_order s.levels (set s.leaves.items c.args.at c.args.value) ≡ set c.args.self.now.values (bit_reversal l c.args.at) c.args.value =
    ap (λ p. in_order s.levels (set s.leaves.items p c.args.value)) (sym (bit_reversal-twice s.levels c.args.at within))
    ∙ in_order-set s.levels (bit_reversal s.levels c.args.at) c.args.value s.leaves.items c.self.invariant.len (bit_reversal-lt s.levels c.args.at)
    ∙ (λ i. set (own i) (bit_reversal (levels i) c.args.at) c.args.value) in
    λ i. record { modulus = (ap (λ (v : Values). v.modulus) c.self.view_is) i; values = moved i }
