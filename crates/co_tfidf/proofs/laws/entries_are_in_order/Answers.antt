use Rattle.co_tfidf.proofs.EntryOrder.{entries_in_order}
use Rattle.co_tfidf.proofs.laws.entries_are_in_order.Goals as goal

pub returns : goal.returns
returns c = entries_in_order
