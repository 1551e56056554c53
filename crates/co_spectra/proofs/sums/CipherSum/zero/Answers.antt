use Rattle.std.proofs.Common.{subst}
use Rattle.co_math.specs.Coefficients.{IsDegree}
use Rattle.co_spectra.proofs.Adding.{none_are}
use Rattle.co_spectra.proofs.sums.CipherSum.zero.Goals as goal

pub returns-clause-none : goal.returns-clause-none
returns-clause-none c = none_are c.args.degree c.in_ok-zero.field-0 c.in_ok-zero-2.field-0 (subst IsDegree c.get.ensures.value c.get.ensures.valid) c.in_ok-zero.ensures c.in_ok-zero-2.ensures
