use Rattle.std.proofs.Common.{sym, subst}
use Rattle.co_spectra.specs.Sums.{CipherSums, IsCipherSumOf}
use Rattle.co_spectra.proofs.Adding.{room_made}
use Rattle.co_spectra.proofs.sums.CipherSum.make_room.Goals as goal

pub returns-then-self-eq-MOST_PRODUCTS-clause-same : goal.returns-then-self-eq-MOST_PRODUCTS-clause-same
returns-then-self-eq-MOST_PRODUCTS-clause-same c x h =
    let s : CipherSums = record { degree = c.self.inside.degree; c0 = c.self.inside.c0; c1 = c.self.inside.c1 } in
    room_made s c.reduce.new.sum c.reduce-then-self-eq-MOST_PRODUCTS.new.sum x c.self.invariant.c0_length c.self.invariant.c1_length (subst (IsCipherSumOf x) (sym c.self.view_is) h)
    c.reduce.ensures.same c.reduce-then-self-eq-MOST_PRODUCTS.ensures.same
