use Rattle.co_bucket.proofs.Standing.{fewest_rows}
use Rattle.co_bucket.proofs.laws.rows_are_fewest.Goals as goal

pub returns : goal.returns
returns c = fewest_rows
