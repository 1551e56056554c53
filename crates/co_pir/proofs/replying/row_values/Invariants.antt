-- The values of the first rows' ciphertexts stand in the list.
use Rattle.co_pir.specs.Kept.{AreRowValues}
use Rattle.co_pir.proofs.replying.row_values.Given as goal

abbrev pub invariant-loop-row : goal.invariant-loop-row
invariant-loop-row l = AreRowValues l.rows.degree l.row l.ciphers.items l.values.items
