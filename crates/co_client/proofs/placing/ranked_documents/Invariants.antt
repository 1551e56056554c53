use Rattle.std.proofs.Common.{◌≡◌, drop, map}
use Rattle.std.specs.Prelude.{fold}
use Rattle.std.specs.BTreeSet.{insert_key}
use Rattle.std.specs.Ordering.{nat_cmp}
use Rattle.co_text.specs.Order.{in_order}
use Rattle.co_rounds.specs.Placing.{document_at}
use Rattle.co_client.proofs.placing.ranked_documents.Given as goal

abbrev pub invariant-loop-rank : goal.invariant-loop-rank
invariant-loop-rank l = fold (insert_key nat_cmp) l.documents.keys (map (document_at l.hits) (drop l.rank-index l.ranks)) ≡ in_order nat_cmp (map (document_at l.hits) l.ranks)
