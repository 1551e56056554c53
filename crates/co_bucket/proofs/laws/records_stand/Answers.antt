use Rattle.co_bucket.proofs.Standing.{long, row_within, there, chunks}
use Rattle.co_bucket.proofs.laws.records_stand.Goals as goal

pub returns-clause-whole : goal.returns-clause-whole
returns-clause-whole c = long

pub returns-clause-row : goal.returns-clause-row
returns-clause-row c = row_within

pub returns-clause-there : goal.returns-clause-there
returns-clause-there c = there

pub returns-clause-chunks : goal.returns-clause-chunks
returns-clause-chunks c = chunks
