use Rattle.co_rounds.proofs.Retrievable.{bucket_opened}
use Rattle.co_rounds.proofs.laws.buckets_open.Goals as goal

pub returns : goal.returns
returns c = bucket_opened
