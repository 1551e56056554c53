use Rattle.std.proofs.Common.{◌≡◌, ◌<◌, get_or, map, None}
use Rattle.std.specs.Prelude.{All}
use Rattle.std.specs.List.{range_with_len}
use Rattle.co_bucket.specs.Bytes.{record_row}
use Rattle.co_client.specs.Placings.{place_asked}
use Rattle.co_client.proofs.placing.places.Given as goal

abbrev pub invariant-loop-bucket : goal.invariant-loop-bucket
invariant-loop-bucket l = record {
  value : l.places.items ≡ map (λ b. place_asked l.shape l.hits (get_or l.placed b None) b) (range_with_len 0 l.bucket);
  rows : All (λ p. record_row l.shape.degree p < l.shape.rows) l.places.items;
}
