use Rattle.std.proofs.Common.{sym, subst}
use Rattle.co_spectra.specs.Sums.{CipherSums, IsCipherSumOf}
use Rattle.co_spectra.specs.Values.{CipherValues, AreCipherValues, ArePlainValues}
use Rattle.co_spectra.proofs.Adding.{product_are}
use Rattle.co_spectra.proofs.sums.CipherSum.add_product.Goals as goal

pub returns-clause-product : goal.returns-clause-product
returns-clause-product c x a p h u v =
    let s : CipherSums = record { degree = c.self.inside.degree; c0 = c.self.inside.c0; c1 = c.self.inside.c1 } in
    let turned : CipherValues = record { c0 = c.turned.inside.c0; c1 = c.turned.inside.c1 } in
    product_are s c.add_product.new.self c.add_product-2.new.self turned c.args.plain.now x a p c.self.invariant.degree (subst (IsCipherSumOf x) (sym c.self.view_is) h)
    (subst (AreCipherValues s.degree a) (sym c.turned.view_is) (subst (λ (m : CipherSums). AreCipherValues m.degree a c.args.turned.now) (sym c.self.view_is) u))
    (subst (λ (m : CipherSums). ArePlainValues m.degree p c.args.plain.now) (sym c.self.view_is) v) c.add_product.ensures c.add_product-2.ensures
