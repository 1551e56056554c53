use Rattle.std.proofs.Common.{◌≡◌, ◌+◌, ℕ, drop, length}
use Rattle.std.specs.Prelude.{slice_index}
use Rattle.co_tfidf.specs.EntryScores.{query_score}
use Rattle.co_tfidf.proofs.search.scores_of.Given as goal

abbrev pub invariant-loop-term : goal.invariant-loop-term
invariant-loop-term g l =
    (length l.scores.items ≡ length l.documents)
    × ((d : ℕ) → slice_index l.scores.items d + query_score l.documents l.index.terms (drop l.term-index l.term-items) d ≡ query_score l.documents l.index.terms l.term-items d)
