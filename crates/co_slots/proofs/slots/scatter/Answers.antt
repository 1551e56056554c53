use Rattle.std.proofs.Common.{◌<◌, ◌/◌, length, get_or, sym, ap, subst, ◌∙◌, arith}
use Rattle.co_transform.proofs.Reversals.{bit_reversal-lt}
use Rattle.co_ring.specs.Moduli.{value_of}
use Rattle.co_ring.specs.Spectra.{Values}
use Rattle.co_slots.specs.Slots.{exponent_of}
use Rattle.co_slots.proofs.Placing.{one_scattered}
use Rattle.co_slots.proofs.slots.scatter.Goals as goal

pub set_leaf-requires-clause-in_range : goal.set_leaf-requires-clause-in_range
set_leaf-requires-clause-in_range c =
    let d = c.requires.degree in
    let b = bit_reversal-lt d.exponent (exponent_of (length c.args.values.now) c.loop-p.p / 2) in
    omega (arith, c.requires.places.each d.exponent c.loop-p.p d.is (omega arith), b, d.is, c.loop-p.invariant.scattered.len)

pub set_leaf-requires-clause-reduced : goal.set_leaf-requires-clause-reduced
set_leaf-requires-clause-reduced c = subst (λ m. get_or c.args.values.now c.loop-p.p 0 < value_of m) (sym c.loop-p.invariant.plain) (c.requires.reduced c.loop-p.p (omega arith))

pub loop-p-preserved : goal.loop-p-preserved
loop-p-preserved c =
    let d = c.requires.degree in
    let n = length c.args.values.now in
    let set = c.set_leaf.ensures d.exponent (c.loop-p.invariant.scattered.len ∙ d.is) in
    record {
      plain = ap (λ (s : Values). s.modulus) set ∙ c.loop-p.invariant.plain;
      scattered = one_scattered n c.loop-p.p (get_or c.args.places.now c.loop-p.p 0) c.args.values.now c.loop-p.into.values c.set_leaf.new.self.values d (omega arith)
          (c.requires.places.each d.exponent c.loop-p.p d.is (omega arith)) (ap (λ (s : Values). s.values) set) c.loop-p.invariant.scattered;
    }
