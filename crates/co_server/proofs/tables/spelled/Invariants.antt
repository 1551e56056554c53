use Rattle.std.proofs.Common.{◌≡◌, take}
use Rattle.std.specs.List.{flat_map}
use Rattle.co_rounds.specs.Serving.{record_at}
use Rattle.co_server.proofs.tables.spelled.Given as goal

abbrev pub invariant-loop-document : goal.invariant-loop-document
invariant-loop-document l = l.bytes.items ≡ flat_map (record_at l.library.records) (take l.document-index l.list)
