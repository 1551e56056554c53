use Rattle.co_switch.proofs.Spectral.{AreFirst}
use Rattle.co_switch.proofs.keys.spectra.Given as goal

abbrev pub invariant-loop-index : goal.invariant-loop-index
invariant-loop-index l = AreFirst l.tables l.index l.polynomials l.values.items
