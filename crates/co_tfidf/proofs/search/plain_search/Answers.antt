-- The terms of an index ascend, and the parts are those of the answer.
use Rattle.std.proofs.Common.{◌≡◌, ◌∙◌, ℕ, List, Option, refl, ap, length}
use Rattle.co_text.specs.declared.found.Found.{Found}
use Rattle.co_text.specs.declared.found.Hit.{Hit}
use Rattle.co_text.specs.Terms.{distinct}
use Rattle.co_text.specs.Numbers.{unknown_in}
use Rattle.co_text.specs.Ranking.{ranking}
use Rattle.co_tfidf.specs.Vocabulary.{vocabulary}
use Rattle.co_tfidf.specs.Scores.{scores}
use Rattle.co_tfidf.specs.Hits.{hits_of}
use Rattle.co_tfidf.specs.Found.{picked}
use Rattle.co_tfidf.proofs.VocabularyLaw.{is_vocabulary}
use Rattle.co_tfidf.proofs.HitsLaw.{order_within, hits_within}
use Rattle.co_tfidf.proofs.search.plain_search.Goals as goal

pub unknown_terms-requires : goal.unknown_terms-requires
unknown_terms-requires g c = rw c.requires.0.terms (is_vocabulary c.args.corpus.now g.most).ascending

pub make_hits-requires : goal.make_hits-requires
make_hits-requires g c =
    let long : length c.deref.result.now ≡ length c.as_slice-documents.result.now = ap length c.deref.ensures.value ∙ c.in_ok-scores.ensures.count in
    order_within c.args.hits c.as_slice-documents.result.now c.deref.result.now c.as_slice.result.now long (c.as_slice.ensures ∙ c.in_ok-order.ensures)

pub pick_document-requires : goal.pick_document-requires
pick_document-requires g c =
    let long : length c.deref.result.now ≡ length c.as_slice-documents.result.now = ap length c.deref.ensures.value ∙ c.in_ok-scores.ensures.count in
    hits_within c.as_slice-documents.result.now c.as_slice.result.now c.as_slice-2.result.now
    (order_within c.args.hits c.as_slice-documents.result.now c.deref.result.now c.as_slice.result.now long (c.as_slice.ensures ∙ c.in_ok-order.ensures))
    (c.as_slice-2.ensures ∙ c.in_ok-hits.ensures)

pub returns : goal.returns
returns g c =
    let ds = c.args.corpus.now in
    let query = c.args.query.now in
    let docs : c.as_slice-documents.result.now ≡ ds = c.as_slice-documents.ensures.value in
    let order : c.as_slice.result.now ≡ ranking c.args.hits (scores g.most ds query) =
    c.as_slice.ensures ∙ c.in_ok-order.ensures ∙ rw (c.deref.ensures.value, c.in_ok-scores.ensures.scores, docs, c.in_ok-keywords.ensures) refl in
    let hits : c.in_ok-hits.hits ≡ hits_of g.most ds c.args.hits query = c.in_ok-hits.ensures ∙ rw (docs, order) refl in
    let unknown : c.in_ok-unknown_terms.field-0 ≡ unknown_in (vocabulary g.most ds) (distinct query) = c.in_ok-unknown_terms.ensures ∙ rw (c.requires.0.terms, c.in_ok-keywords.ensures) refl in
    let document : c.in_ok-document.document ≡ picked ds c.args.pick (hits_of g.most ds c.args.hits query) = c.in_ok-document.ensures ∙ rw (docs, c.as_slice-2.ensures, hits) refl in
    let whole : List Hit → List (List ℕ) → Option (ℕ × List ℕ) → Found = λ h u d. record { hits = h; unknown = u; document = d } in
    ap (λ h. whole h c.in_ok-unknown_terms.field-0 c.in_ok-document.document) (c.hits.view_is ∙ hits)
    ∙ ap (λ u. whole (hits_of g.most ds c.args.hits query) u c.in_ok-document.document) unknown
    ∙ ap (λ d. whole (hits_of g.most ds c.args.hits query) (unknown_in (vocabulary g.most ds) (distinct query)) d) document
