use Rattle.std.proofs.Common.{◌≡◌, ◌*◌, length}
use Rattle.co_client.proofs.Opened.{IsOpenedTo}
use Rattle.co_client.proofs.reading.open_from.Given as goal

abbrev pub invariant-loop-chunk : goal.invariant-loop-chunk
invariant-loop-chunk l = record {
  opened : IsOpenedTo l.fn.degree l.secret l.body l.fn.from l.fn.count l.chunk l.bytes;
  long : length l.bytes ≡ 2 * (l.chunk * l.fn.degree);
}
