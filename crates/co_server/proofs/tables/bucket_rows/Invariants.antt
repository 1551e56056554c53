use Rattle.std.proofs.Common.{◌≡◌, map}
use Rattle.std.specs.List.{range_with_len}
use Rattle.co_rounds.specs.Serving.{bucket_table}
use Rattle.co_server.proofs.tables.bucket_rows.Given as goal

abbrev pub invariant-loop-bucket : goal.invariant-loop-bucket
invariant-loop-bucket l = l.tables.items ≡ map (bucket_table l.library) (range_with_len 0 l.bucket)
