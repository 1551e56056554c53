use Rattle.co_library.proofs.Ascending.{entries_within, entries_rise}
use Rattle.co_library.proofs.laws.entries_ascend.Goals as goal

pub returns-clause-in_range : goal.returns-clause-in_range
returns-clause-in_range c = entries_within

pub returns-clause-ascending : goal.returns-clause-ascending
returns-clause-ascending c = entries_rise
