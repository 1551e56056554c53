use Rattle.std.proofs.Common.{sym, subst}
use Rattle.co_spectra.specs.Sums.{CipherSums, IsCipherSumOf}
use Rattle.co_spectra.specs.Values.{CipherValues, AreCipherValues, ArePlainValues}
use Rattle.co_spectra.proofs.Adding.{three_are}
use Rattle.co_spectra.proofs.sums.CipherSum.add_three.Goals as goal

pub returns-clause-products : goal.returns-clause-products
returns-clause-products c k k1 k2 k3 p1 p2 p3 h x1 y1 x2 y2 x3 y3 =
    let s : CipherSums = record { degree = c.self.inside.degree; c0 = c.self.inside.c0; c1 = c.self.inside.c1 } in
    let t1 : CipherValues = record { c0 = c.a.inside.c0; c1 = c.a.inside.c1 } in
    let t2 : CipherValues = record { c0 = c.c.inside.c0; c1 = c.c.inside.c1 } in
    let t3 : CipherValues = record { c0 = c.e.inside.c0; c1 = c.e.inside.c1 } in
    three_are s c.add_three.new.self c.add_three-2.new.self t1 t2 t3 c.args.b.now c.args.d.now c.args.f.now k k1 k2 k3 p1 p2 p3 c.self.invariant.degree (subst (IsCipherSumOf k) (sym c.self.view_is) h)
    (subst (AreCipherValues s.degree k1) (sym c.a.view_is) (subst (λ (m : CipherSums). AreCipherValues m.degree k1 c.args.a.now) (sym c.self.view_is) x1))
    (subst (λ (m : CipherSums). ArePlainValues m.degree p1 c.args.b.now) (sym c.self.view_is) y1)
    (subst (AreCipherValues s.degree k2) (sym c.c.view_is) (subst (λ (m : CipherSums). AreCipherValues m.degree k2 c.args.c.now) (sym c.self.view_is) x2))
    (subst (λ (m : CipherSums). ArePlainValues m.degree p2 c.args.d.now) (sym c.self.view_is) y2)
    (subst (AreCipherValues s.degree k3) (sym c.e.view_is) (subst (λ (m : CipherSums). AreCipherValues m.degree k3 c.args.e.now) (sym c.self.view_is) x3))
    (subst (λ (m : CipherSums). ArePlainValues m.degree p3 c.args.f.now) (sym c.self.view_is) y3)
    c.add_three.ensures c.add_three-2.ensures
