-- What is left to rank, put among what was ranked, is all.
use Rattle.std.proofs.Common.{◌≡◌, []}
use Rattle.std.specs.Prelude.{map}
use Rattle.co_tfidf.specs.Tables.{term_cmp, shown_ranked, ranked_as, put_all}
use Rattle.co_tfidf.proofs.vocabulary.rank_terms.Given as goal

abbrev pub invariant-loop-term : goal.invariant-loop-term
invariant-loop-term l =
    put_all term_cmp (map shown_ranked l.ranked.entries) (map ranked_as l.term-iterator) ≡ put_all term_cmp [] (map ranked_as l.fn.counts.entries)
