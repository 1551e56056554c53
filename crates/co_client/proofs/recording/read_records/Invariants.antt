use Rattle.std.proofs.Common.{◌≡◌, true, length}
use Rattle.std.specs.Prelude.{All}
use Rattle.co_rounds.specs.Recording.{is_within_bins}
use Rattle.co_client.specs.Gathered.{with_bins}
use Rattle.co_client.proofs.Readings.{AreReadTo}
use Rattle.co_client.proofs.recording.read_records.Given as goal

abbrev pub invariant-loop-rank : goal.invariant-loop-rank
invariant-loop-rank l = record {
  read : AreReadTo (with_bins l.reader.shape l.bins) l.reader.secret l.body l.placed l.hits l.rank l.records;
  within : All (λ r. is_within_bins (with_bins l.reader.shape l.bins) r.place ≡ true) l.records;
  long : length l.records ≡ l.rank;
}
