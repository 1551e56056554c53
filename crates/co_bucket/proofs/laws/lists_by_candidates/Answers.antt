use Rattle.co_bucket.proofs.Standing.{list_at, members, ascends}
use Rattle.co_bucket.proofs.laws.lists_by_candidates.Goals as goal

pub returns-clause-of : goal.returns-clause-of
returns-clause-of c = list_at

pub returns-clause-members : goal.returns-clause-members
returns-clause-members c = members

pub returns-clause-ascend : goal.returns-clause-ascend
returns-clause-ascend c = ascends
