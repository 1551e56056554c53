-- The terms kept are the vocabulary, their entries are those of the definition, and each is text.
use Rattle.std.proofs.Common.{◌≡◌, ◌∙◌, ℕ, List, sym, ap, subst, refl, arith, length, [], ◌∷◌, Result, Ok, Err}
use Rattle.std.specs.Prelude.{map, All, IfOk, IsUtf8, String, string_bytes}
use Rattle.std.proofs.lemmas.Str.{IsUtf8-string_bytes}
use Rattle.co_corpus.specs.declared.documents.Document.{Document}
use Rattle.co_tfidf.specs.declared.index.Index.{Index}
use Rattle.co_tfidf.specs.declared.postings.Posting.{Posting}
use Rattle.co_tfidf.specs.Vocabulary.{vocabulary, IsVocabulary}
use Rattle.co_tfidf.specs.Tables.{table_entries, shown}
use Rattle.co_tfidf.specs.Found.{IsIndex}
use Rattle.std.proofs.lemmas.List.Elements.{All-cons, All-nil}
use Rattle.co_tfidf.proofs.Maps.{map-map, map_itself}
use Rattle.co_tfidf.proofs.VocabularyLaw.{is_vocabulary}
use Rattle.co_tfidf.proofs.CountedTerms.{counted_terms}
use Rattle.co_tfidf.proofs.KeptTerms.{kept_terms, tab}
use Rattle.co_tfidf.proofs.VocabularyTerms.{each_kept, few_kept}
use Rattle.co_tfidf.proofs.TableEntries.{entries_are}
use Rattle.co_tfidf.proofs.index.build_index.Goals as goal

pub index_of-requires-clause-few : goal.index_of-requires-clause-few
index_of-requires-clause-few c =
    let ds = c.as_slice-documents.result.now in
    let table = c.in_ok-kept.ensures.kept ∙ kept_terms ds c.args.terms c.in_ok-counts.counts.entries (counted_terms c.in_ok-counts.counts ds c.in_ok-counts.ensures c.in_ok-kept.ensures.ordered) in
    omega (arith, few_kept c.args.terms ds c.in_ok-kept.kept.entries table, c.ranges.terms.fits)

pub index_of-requires-clause-each : goal.index_of-requires-clause-each
index_of-requires-clause-each c =
    let ds = c.as_slice-documents.result.now in
    let table = c.in_ok-kept.ensures.kept ∙ kept_terms ds c.args.terms c.in_ok-counts.counts.entries (counted_terms c.in_ok-counts.counts ds c.in_ok-counts.ensures c.in_ok-kept.ensures.ordered) in
    each_kept c.args.terms ds c.in_ok-kept.kept.entries table

if_ok : {A E : Type 0} (P Q S : A → Type 0) (r : Result A E) → ((a : A) → P a → Q a → S a) → IfOk r P → IfOk r Q → IfOk r S
if_ok P Q S (Ok a) both p q = both a p q
if_ok P Q S (Err e) both p q = tt

itself : (ds : List Document) (ws : List (List ℕ)) → map (λ e. e.0) (map (tab ds) ws) ≡ ws
itself ds ws = map-map (λ e. e.0) (tab ds) ws ∙ map_itself (λ w. w) ws (λ w. refl)

pub returns-clause-index : goal.returns-clause-index
returns-clause-index c =
    let ds = c.as_slice-documents.result.now in
    let most = c.args.terms in
    let es = c.in_ok-kept.kept.entries in
    let table = c.in_ok-kept.ensures.kept ∙ kept_terms ds most c.in_ok-counts.counts.entries (counted_terms c.in_ok-counts.counts ds c.in_ok-counts.ensures c.in_ok-kept.ensures.ordered) in
    rw (← c.as_slice-documents.ensures.value)
    (if_ok (λ index. index.terms ≡ map (λ e. e.0) (map shown es)) (λ index. index.weights ≡ table_entries (length ds) 0 (map shown es)) (λ index. IsIndex most ds index) c.index_of.result
    (λ index ts ws. record {
      terms = ts ∙ ap (map (λ e. e.0)) table ∙ itself ds (vocabulary most ds);
      weights = ws ∙ ap (table_entries (length ds) 0) table ∙ entries_are ds 0 (vocabulary most ds);
    })
    c.index_of.ensures.terms c.index_of.ensures.weights)

pub returns-clause-vocabulary : goal.returns-clause-vocabulary
returns-clause-vocabulary c =
    let ds = c.as_slice-documents.result.now in
    let most = c.args.terms in
    let es = c.in_ok-kept.kept.entries in
    let table = c.in_ok-kept.ensures.kept ∙ kept_terms ds most c.in_ok-counts.counts.entries (counted_terms c.in_ok-counts.counts ds c.in_ok-counts.ensures c.in_ok-kept.ensures.ordered) in
    let P : Index → Type 0 = λ index. index.terms ≡ map (λ e. e.0) (map shown es) in
    rw (← c.as_slice-documents.ensures.value)
    (if_ok P P (λ index. IsVocabulary most ds index.terms) c.index_of.result
    (λ index ts us. subst (IsVocabulary most ds) (sym (ts ∙ ap (map (λ e. e.0)) table ∙ itself ds (vocabulary most ds))) (is_vocabulary ds most))
    c.index_of.ensures.terms c.index_of.ensures.terms)

text_keys : {Y : Type 0} (es : List (String Y × List Posting)) → All IsUtf8 (map (λ e. e.0) (map shown es))
text_keys [] = All-nil IsUtf8
text_keys (e ∷ es) = All-cons IsUtf8 (string_bytes e.0) (map (λ e. e.0) (map shown es)) (IsUtf8-string_bytes e.0) (text_keys es)

pub returns-clause-text : goal.returns-clause-text
returns-clause-text c =
    let es = c.in_ok-kept.kept.entries in
    let P : Index → Type 0 = λ index. index.terms ≡ map (λ e. e.0) (map shown es) in
    if_ok P P (λ index. All IsUtf8 index.terms) c.index_of.result
    (λ index ts us. subst (λ (ws : List (List ℕ)). All IsUtf8 ws) (sym ts) (text_keys es))
    c.index_of.ensures.terms c.index_of.ensures.terms
