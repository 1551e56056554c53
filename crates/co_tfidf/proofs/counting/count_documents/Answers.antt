-- One document more is counted.
use Rattle.std.proofs.Common.{◌<◌, ◌≤◌, ◌+◌, ◌++◌, ◌∙◌, sym, ap, subst, arith, take, length, []}
use Rattle.std.specs.Prelude.{All}
use Rattle.std.specs.Option.{unwrap_or}
use Rattle.std.proofs.lemmas.List.{take_all, length-take}
use Rattle.co_text.specs.Terms.{terms}
use Rattle.co_corpus.specs.Documents.{IsDocument}
use Rattle.co_tfidf.specs.Counts.{term_frequency}
use Rattle.co_tfidf.specs.Postings.{posting, postings, listed}
use Rattle.co_tfidf.proofs.Occurrences.{document_step, postings_below, unwrap_listed}
use Rattle.co_tfidf.proofs.counting.count_documents.Goals as goal

pub loop-number-preserved : goal.loop-number-preserved
loop-number-preserved c = λ w.
    let so_far = ap (λ o. unwrap_or o []) (c.loop-number.invariant w) ∙ unwrap_listed _ in
    let d = c.index-documents-number.result in
    c.in_ok-count_document.ensures w
    ∙ ap (λ ps. listed (ps ++ posting c.loop-number.number (term_frequency w (terms d.text)))) so_far
    ∙ ap listed (document_step w c.args.documents.now c.loop-number.number d c.loop-number-test.true c.index-documents-number.is)

pub count_document-requires : goal.count_document-requires
count_document-requires c = record {
  document = subst IsDocument (sym c.index-documents-number.is) (c.requires.each _ _ c.loop-number-test.true);
  listed = λ w. c.loop-number.invariant w ∙ ap listed (sym (unwrap_listed _) ∙ ap (λ o. unwrap_or o []) (sym (c.loop-number.invariant w)));
  before = λ w.
      let so_far = ap (λ o. unwrap_or o []) (c.loop-number.invariant w) ∙ unwrap_listed _ in
      let few : 0 + length (take c.loop-number.number c.args.documents.now) ≤ c.loop-number.number = omega (arith, length-take c.loop-number.number c.args.documents.now) in
      subst (All (λ p. p.document < c.loop-number.number)) (sym so_far) (postings_below w 0 (take c.loop-number.number c.args.documents.now) c.loop-number.number few);
}

pub returns : goal.returns
returns c = λ w. c.loop-number.invariant w ∙ ap (λ ds. listed (postings w 0 ds)) (take_all _ _ c.loop-number-test.false)
