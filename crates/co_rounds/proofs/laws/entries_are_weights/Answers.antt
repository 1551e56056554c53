use Rattle.co_rounds.proofs.Weighing.{are_entries, weights_plain}
use Rattle.co_rounds.proofs.laws.entries_are_weights.Goals as goal

pub returns-clause-entries : goal.returns-clause-entries
returns-clause-entries c = are_entries

pub returns-clause-weights : goal.returns-clause-weights
returns-clause-weights c = weights_plain
