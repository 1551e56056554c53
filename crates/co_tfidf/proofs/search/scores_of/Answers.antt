use Rattle.std.proofs.Common.{◌≡◌, arith, drop, []}
use Rattle.std.proofs.lemmas.List.{drop_all}
use Rattle.co_tfidf.proofs.VocabularyLaw.{is_vocabulary}
use Rattle.co_tfidf.proofs.Scores.{scores_are, query_score_le}
use Rattle.co_tfidf.proofs.search.scores_of.Goals as goal

pub score_term-requires-clause-fits : goal.score_term-requires-clause-fits
score_term-requires-clause-fits g c = λ d.
    rw c.deref_mut.ensures.value (omega (arith, rw c.as_slice-term-items.ensures at (c.loop-term.invariant.1 d), query_score_le c.args.documents.now c.args.index.now.terms c.args.query.now d, c.requires.1))

pub returns-clause-scores : goal.returns-clause-scores
returns-clause-scores g c = scores_are g.most c.args.documents.now c.args.query.now _ c.loop-term.invariant.0 (λ d.
    let none : drop c.loop-term.term-index c.as_slice-term-items.result.now ≡ [] = drop_all _ _ c.loop-term-test.false in
    let all = rw (none, c.as_slice-term-items.ensures, c.requires.0.terms) at (c.loop-term.invariant.1 d) in
    omega (arith, all))

pub score_term-requires-clause-sorted : goal.score_term-requires-clause-sorted
score_term-requires-clause-sorted g c = rw c.requires.0.terms (is_vocabulary c.args.documents.now g.most).ascending
