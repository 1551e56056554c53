-- As many as there is room for of what is left, put among what was kept, are those that are kept in all.
use Rattle.std.proofs.Common.{◌≡◌, [], take}
use Rattle.std.specs.Prelude.{map}
use Rattle.std.specs.Ordering.{nat_cmp}
use Rattle.std.specs.Cmp.Lexicographic.{slice_cmp}
use Rattle.co_tfidf.specs.Tables.{shown, shown_ranked, unranked, put_all}
use Rattle.co_tfidf.proofs.vocabulary.keep_terms.Given as goal

abbrev pub invariant-loop-term : goal.invariant-loop-term
invariant-loop-term l =
    put_all (slice_cmp nat_cmp) (map shown l.kept.entries) (map unranked (take l.room (map shown_ranked l.term-iterator)))
    ≡ put_all (slice_cmp nat_cmp) [] (map unranked (take l.fn.most (map shown_ranked l.initial.term-iterator)))
