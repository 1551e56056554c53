use Rattle.std.proofs.Common.{◌∙◌, sym, subst, ap}
use Rattle.co_spectra.specs.Sums.{CipherSums, IsCipherSumOf}
use Rattle.co_spectra.proofs.Adding.{both_added}
use Rattle.co_spectra.proofs.sums.CipherSum.add_in.Goals as goal

pub returns-clause-sum : goal.returns-clause-sum
returns-clause-sum c x y h g =
    let s : CipherSums = record { degree = c.self.inside.degree; c0 = c.self.inside.c0; c1 = c.self.inside.c1 } in
    let t : CipherSums = record { degree = c.other.inside.degree; c0 = c.other.inside.c0; c1 = c.other.inside.c1 } in
    both_added s c.add_sum.new.sum c.add_sum-2.new.sum x c.self.invariant.c0_length c.self.invariant.c1_length (subst (IsCipherSumOf x) (sym c.self.view_is) h)
    t y c.self.invariant.degree (ap (λ (m : CipherSums). m.degree) c.other.view_is ∙ c.requires.one_degree ∙ sym (ap (λ (m : CipherSums). m.degree) c.self.view_is)) (subst (IsCipherSumOf y) (sym c.other.view_is) g)
    c.add_sum.ensures.sum c.add_sum-2.ensures.sum
