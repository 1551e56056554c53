-- The first payloads' values stand in the list.
use Rattle.co_pir.specs.Kept.{ArePayloadValues}
use Rattle.co_pir.proofs.table.payload_values.Given as goal

abbrev pub invariant-loop-place : goal.invariant-loop-place
invariant-loop-place l = ArePayloadValues l.contents l.place l.values.items
