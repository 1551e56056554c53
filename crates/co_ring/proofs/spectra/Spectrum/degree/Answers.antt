use Rattle.std.proofs.Common.{length, ap, subst, arith}
use Rattle.co_math.specs.Coefficients.{AreBelow}
use Rattle.co_ring.specs.Moduli.{value_of}
use Rattle.co_ring.specs.Spectra.{Values}
use Rattle.co_ring.proofs.Orderings.{in_order-length, in_order-below}
use Rattle.co_ring.proofs.spectra.Spectrum.degree.Goals as goal

pub returns-clause-value : goal.returns-clause-value
returns-clause-value c =
    let s = c.self.inside in
    omega (arith, s.leaves.ok.0, c.self.invariant.len, in_order-length s.levels s.leaves.items, ap (λ (v : Values). length v.values) c.self.view_is)

pub returns-clause-reduced : goal.returns-clause-reduced
returns-clause-reduced c = subst (λ (v : Values). AreBelow (value_of v.modulus) v.values) c.self.view_is (in_order-below c.self.inside.modulus c.self.inside.levels c.self.inside.leaves.items c.self.invariant)
