-- The terms that are kept are the vocabulary, each with its postings.
use Rattle.std.proofs.Common.{◌≡◌, ℕ, List, [], length, take, refl, sym, ap, ◌∙◌, String}
use Rattle.std.specs.Prelude.{map}
use Rattle.std.specs.Ordering.{nat_cmp}
use Rattle.std.specs.Cmp.Lexicographic.{slice_cmp}
use Rattle.std.specs.declared.cmp.Reverse.{Reverse}
use Rattle.std.specs.declared.cmp.Ordering.TheVariants.{Equal}
use Rattle.std.proofs.lemmas.Map.Lookups.{exact_bytes, exact_pairs, exact_unsigned}
use Rattle.std.proofs.lemmas.List.{take-map}
use Rattle.co_corpus.specs.declared.documents.Document.{Document}
use Rattle.co_tfidf.specs.declared.postings.Posting.{Posting}
use Rattle.co_tfidf.specs.Counts.{document_frequency}
use Rattle.co_tfidf.specs.Postings.{postings}
use Rattle.co_text.specs.Order.{in_order}
use Rattle.co_tfidf.specs.Vocabulary.{corpus_terms, rank_cmp, vocabulary}
use Rattle.co_tfidf.specs.Tables.{term_cmp, shown, ranked_as, unranked, put_all}
use Rattle.co_tfidf.proofs.Maps.{map-map, map_same}
use Rattle.co_text.proofs.MapInsert.{map-in_order}
use Rattle.co_tfidf.proofs.Tables.{put_all-keys}
use Rattle.co_tfidf.proofs.CountedTerms.{length-postings}

exact_reverse : (a b : Reverse ℕ) → nat_cmp b.0 a.0 ≡ Equal → a ≡ b
exact_reverse a b tied = let whole : ℕ → Reverse ℕ = λ n. record { 0 = n } in ap whole (sym (exact_unsigned b.0 a.0 tied))

-- terms with the same rank are one
pub exact_ranks : (a b : Reverse ℕ × List ℕ) → term_cmp a b ≡ Equal → a ≡ b
exact_ranks = exact_pairs (λ (a b : Reverse ℕ). nat_cmp b.0 a.0) (slice_cmp nat_cmp) exact_reverse exact_bytes

module _ (ds : List Document) where
  -- a term with its postings, and a ranked one
  abbrev pub tab : List ℕ → List ℕ × List Posting
  tab w = (w, postings w 0 ds)

  abbrev ranked_term : List ℕ → Reverse ℕ × List ℕ
  ranked_term w = (record { 0 = document_frequency w ds }, w)

  abbrev tab_ranked : Reverse ℕ × List ℕ → (Reverse ℕ × List ℕ) × List Posting
  tab_ranked k = (k, postings k.1 0 ds)

  abbrev rank : List ℕ × List Posting → (Reverse ℕ × List ℕ) × List Posting
  rank e = ((record { 0 = length e.1 }, e.0), e.1)

  rank-tab : (w : List ℕ) → rank (tab w) ≡ tab_ranked (ranked_term w)
  rank-tab w =
      let with_rank : ℕ → (Reverse ℕ × List ℕ) × List Posting = λ n. ((record { 0 = n }, w), postings w 0 ds) in
      ap with_rank (length-postings w 0 ds)

  ranks : {Y : Type 0} (es : List (String Y × List Posting)) → map shown es ≡ map tab (corpus_terms ds) → map ranked_as es ≡ map tab_ranked (map ranked_term (corpus_terms ds))
  ranks es table =
      sym (map-map rank shown es)
      ∙ ap (map rank) table
      ∙ map-map rank tab (corpus_terms ds)
      ∙ map_same (λ w. rank (tab w)) (λ w. tab_ranked (ranked_term w)) (corpus_terms ds) rank-tab
      ∙ sym (map-map tab_ranked ranked_term (corpus_terms ds))

  -- a ranked term with its postings
  abbrev tab_rank : List ℕ → (Reverse ℕ × List ℕ) × List Posting
  tab_rank w = tab_ranked (ranked_term w)

  ranked : {Y : Type 0} (es : List (String Y × List Posting)) → map shown es ≡ map tab (corpus_terms ds)
      → put_all term_cmp [] (map ranked_as es) ≡ map tab_rank (in_order (rank_cmp ds) (corpus_terms ds))
  ranked es table =
      ap (put_all term_cmp []) (ranks es table)
      ∙ put_all-keys term_cmp (λ k. postings k.1 0 ds) exact_ranks (map ranked_term (corpus_terms ds))
      ∙ ap (map tab_ranked) (sym (map-in_order (rank_cmp ds) term_cmp ranked_term (λ v w. refl) (corpus_terms ds)))
      ∙ map-map tab_ranked ranked_term (in_order (rank_cmp ds) (corpus_terms ds))

  pub kept_terms : {Y : Type 0} (most : ℕ) (es : List (String Y × List Posting)) → map shown es ≡ map tab (corpus_terms ds)
      → put_all (slice_cmp nat_cmp) [] (map unranked (take most (put_all term_cmp [] (map ranked_as es)))) ≡ map tab (vocabulary most ds)
  unfolding vocabulary
  kept_terms most es table =
      ap (λ rs. put_all (slice_cmp nat_cmp) [] (map unranked (take most rs))) (ranked es table)
      ∙ ap (λ rs. put_all (slice_cmp nat_cmp) [] (map unranked rs)) (take-map tab_rank most (in_order (rank_cmp ds) (corpus_terms ds)))
      ∙ ap (put_all (slice_cmp nat_cmp) []) (map-map unranked tab_rank (take most (in_order (rank_cmp ds) (corpus_terms ds))))
      ∙ put_all-keys (slice_cmp nat_cmp) (λ w. postings w 0 ds) exact_bytes (take most (in_order (rank_cmp ds) (corpus_terms ds)))
