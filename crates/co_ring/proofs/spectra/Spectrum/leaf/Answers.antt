use Rattle.std.proofs.Common.{◌<◌, ◌^◌, get_or, sym, ap, ◌∙◌, arith}
use Rattle.std.proofs.lemmas.Grind.{get_or_default_zero}
use Rattle.co_math.specs.Exponents.{bit_reversal}
use Rattle.co_transform.proofs.Reversals.{bit_reversal-lt, bit_reversal-twice}
use Rattle.co_ring.specs.Spectra.{Values}
use Rattle.co_ring.proofs.Orderings.{in_order-get, view_length, own_levels}
use Rattle.co_ring.proofs.spectra.Spectrum.leaf.Goals as goal

pub index-requires : goal.index-requires
index-requires c =
    let s = c.self.inside in
    omega (arith, s.leaves.ok.0, c.self.invariant.len, view_length s.levels s.leaves.items c.args.self.now.values (ap (λ (v : Values). v.values) c.self.view_is), c.requires)

pub returns : goal.returns
returns c = λ l size.
    let s = c.self.inside in
    let view = ap (λ (v : Values). v.values) c.self.view_is in
    let levels = own_levels s.levels l s.leaves.items c.args.self.now.values view size in
    let within : c.args.at < 2 ^ s.levels = omega (arith, c.requires, view_length s.levels s.leaves.items c.args.self.now.values view) in
    let read = c.index.ensures ∙ get_or_default_zero s.leaves.items c.args.at c.index.result.now (omega (arith, within, c.self.invariant.len)) in
    read ∙ ap (λ p. get_or s.leaves.items p 0) (sym (bit_reversal-twice s.levels c.args.at within)) ∙ sym (in_order-get s.levels (bit_reversal s.levels c.args.at) s.leaves.items (bit_reversal-lt s.levels c.args.at))
    ∙ ap (λ values. get_or values (bit_reversal s.levels c.args.at) 0) view ∙ ap (λ k. get_or c.args.self.now.values (bit_reversal k c.args.at) 0) levels
