use Rattle.co_bucket.proofs.OneAnswer.{one_items, one_buckets, refuses}
use Rattle.co_bucket.proofs.laws.one_witness.Goals as goal

pub returns-clause-items : goal.returns-clause-items
returns-clause-items c = one_items

pub returns-clause-buckets : goal.returns-clause-buckets
returns-clause-buckets c = one_buckets

pub returns-clause-refuses : goal.returns-clause-refuses
returns-clause-refuses c = refuses
