-- The documents so far are counted.
use Rattle.std.proofs.Common.{◌≡◌, ℕ, List, take}
use Rattle.std.specs.BTreeMap.{get_by_text}
use Rattle.co_tfidf.specs.Postings.{postings, listed}
use Rattle.co_tfidf.proofs.counting.count_documents.Given as goal

abbrev pub invariant-loop-number : goal.invariant-loop-number
invariant-loop-number l = (w : List ℕ) → get_by_text l.counts w ≡ listed (postings w 0 (take l.number l.documents))
