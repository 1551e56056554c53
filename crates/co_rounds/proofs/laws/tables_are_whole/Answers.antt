use Rattle.co_rounds.proofs.Retrievable.{is-bucket_table, is-bin_table}
use Rattle.co_rounds.proofs.laws.tables_are_whole.Goals as goal

pub returns-clause-buckets : goal.returns-clause-buckets
returns-clause-buckets c = is-bucket_table

pub returns-clause-bins : goal.returns-clause-bins
returns-clause-bins c = is-bin_table
