use Rattle.std.proofs.Common.{◌≡◌, ◌*◌}
use Rattle.co_rns.specs.Spectra.{spectrum_degree}
use Rattle.co_switch.proofs.Adding.{AreGathered}
use Rattle.co_switch.proofs.products.gather_digits.Given as goal

abbrev pub invariant-loop-pass : goal.invariant-loop-pass
invariant-loop-pass l = record {
  digits_are : l.room.digits ≡ l.initial.room.digits;
  low_degree : spectrum_degree l.room.low ≡ l.tables;
  middle_degree : spectrum_degree l.room.middle ≡ l.tables;
  high_degree : spectrum_degree l.room.high ≡ l.tables;
  first : AreGathered l.tables (3 * l.pass) l.initial.room.digits l.values0 l.sum0;
  second : AreGathered l.tables (3 * l.pass) l.initial.room.digits l.values1 l.sum1;
}
