use Rattle.std.proofs.Common.{◌∙◌, sym, subst, ap}
use Rattle.co_spectra.specs.Sums.{CipherSums, IsCipherSumOf}
use Rattle.co_spectra.proofs.Adding.{cipher_at}
use Rattle.co_spectra.proofs.sums.CipherSum.cipher.Goals as goal

pub returns-clause-value : goal.returns-clause-value
returns-clause-value c x h =
    let s : CipherSums = record { degree = c.self.inside.degree; c0 = c.self.inside.c0; c1 = c.self.inside.c1 } in
    c.from_parts.ensures
    ∙ cipher_at s c.args.tables.now x (record { c0 = c.in_ok-c0.c0; c1 = c.in_ok-c1.c1 }) (ap (λ (m : CipherSums). m.degree) c.self.view_is ∙ c.requires) (subst (IsCipherSumOf x) (sym c.self.view_is) h)
    c.in_ok-c0.ensures.value c.in_ok-c1.ensures.value
