use Rattle.co_switch.proofs.Spectral.{spectrum-len}
use Rattle.co_switch.proofs.products.three_spectra.Goals as goal

pub returns-clause-low : goal.returns-clause-low
returns-clause-low c = spectrum-len c.args.degree _ c.in_ok-low.low c.in_ok-low.ensures

pub returns-clause-middle : goal.returns-clause-middle
returns-clause-middle c = spectrum-len c.args.degree _ c.in_ok-middle.middle c.in_ok-middle.ensures

pub returns-clause-high : goal.returns-clause-high
returns-clause-high c = spectrum-len c.args.degree _ c.in_ok-high.high c.in_ok-high.ensures
