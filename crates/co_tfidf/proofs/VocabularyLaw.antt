-- The vocabulary ascends, and it has the first terms of the corpus by rank.
use Rattle.std.proofs.Common.{◌≡◌, ℕ, min, Bool, true, false, ◌||◌, List, [], ◌∷◌, ◌++◌, length, take, drop, refl, sym, ap, ◌∙◌, subst}
use Rattle.std.specs.Prelude.{flat_map}
use Rattle.std.specs.List.{list_any, AllByRecursion, IsDistinct}
use Rattle.std.specs.List.Sorted.{IsStrictlySortedBy}
use Rattle.std.specs.Str.{bytes_eq}
use Rattle.std.specs.Ordering.{nat_cmp, eq_by_cmp, is_eq, ordering_then, ordering_reverse}
use Rattle.std.specs.Cmp.{IsTotalOrder}
use Rattle.std.specs.Cmp.Lexicographic.{slice_cmp, bytes_decides}
use Rattle.std.specs.declared.cmp.Ordering.{Ordering}
use Rattle.std.specs.declared.cmp.Ordering.TheVariants.{Less, Equal, Greater}
use Rattle.std.proofs.lemmas.Cmp.{nat_list_cmp_total, nat_cmp_total, then_total, back_total, on_total, tied_itself}
use Rattle.std.proofs.lemmas.List.{length-take, take-append-drop}
use Rattle.std.proofs.lemmas.List.Folds.{list_any-append}
use Rattle.std.proofs.lemmas.Map.Text.{is_eq-slice_cmp}
use Rattle.std.proofs.lemmas.Map.Lookups.{exact_bytes}
use Rattle.std.proofs.lemmas.Map.Keys.{IsDistinct-from_sorted}
use Rattle.co_text.specs.Terms.{terms}
use Rattle.co_corpus.specs.declared.documents.Document.{Document}
use Rattle.co_tfidf.specs.Counts.{document_frequency}
use Rattle.co_text.specs.Order.{in_order}
use Rattle.co_tfidf.specs.Vocabulary.{corpus_terms, rank_cmp, vocabulary, IsVocabulary}
use Rattle.co_text.proofs.InOrder.{in_order-sorted, in_order-members, length-in_order}
use Rattle.co_text.proofs.Sorted.{one_unless, front_before, all_at, distinct_take}
use Rattle.co_tfidf.proofs.CountedTerms.{any_same}

then_less : (a : Ordering) → is_eq (ordering_then a Less) ≡ false
then_less Less = refl
then_less Equal = refl
then_less Greater = refl

then_greater : (a : Ordering) → is_eq (ordering_then a Greater) ≡ false
then_greater Less = refl
then_greater Equal = refl
then_greater Greater = refl

module _ {K : Type 0} (e f : K → K → Bool) (same : (x y : K) → e x y ≡ f x y) where
  apart_same : (x : K) (ys : List K) → AllByRecursion (λ y. e x y ≡ false) ys → AllByRecursion (λ y. f x y ≡ false) ys
  apart_same x [] all = tt
  apart_same x (y ∷ ys) all = (sym (same x y) ∙ all.0, apart_same x ys all.1)

  distinct_same : (xs : List K) → IsDistinct e xs → IsDistinct f xs
  unfolding IsDistinct
  distinct_same [] distinct = tt
  distinct_same (x ∷ xs) distinct = (apart_same x xs distinct.0, distinct_same xs distinct.1)

same_bytes : (v w : List ℕ) → bytes_eq v w ≡ true → v ≡ w
same_bytes v w same = (bytes_decides v w).0 same

any_front : {A : Type 0} (p : A → Bool) (xs ys : List A) → list_any p xs ≡ true → list_any p (xs ++ ys) ≡ true
any_front p xs ys is = list_any-append p xs ys ∙ ap (λ b. b || list_any p ys) is

module _ (ds : List Document) where
  abbrev bytes : List ℕ → List ℕ → Ordering
  bytes = slice_cmp nat_cmp

  rank_total : IsTotalOrder (rank_cmp ds)
  rank_total = then_total (back_total (on_total (λ w. document_frequency w ds) nat_cmp_total)) nat_list_cmp_total

  tied_at : (x y : List ℕ) (r : Ordering) → bytes x y ≡ r → is_eq (ordering_then (nat_cmp (document_frequency y ds) (document_frequency x ds)) r) ≡ is_eq r
  tied_at x y Less is = then_less (nat_cmp (document_frequency y ds) (document_frequency x ds))
  tied_at x y Equal is =
      let one : x ≡ y = exact_bytes x y is in
      ap (λ u. is_eq (ordering_then (nat_cmp (document_frequency y ds) (document_frequency u ds)) Equal)) one ∙ ap (λ r. is_eq (ordering_then r Equal)) (tied_itself nat_cmp_total (document_frequency y ds))
  tied_at x y Greater is = then_greater (nat_cmp (document_frequency y ds) (document_frequency x ds))

  -- terms are tied by rank where they are one
  tied : (x y : List ℕ) → eq_by_cmp (rank_cmp ds) x y ≡ eq_by_cmp bytes x y
  tied x y = tied_at x y (bytes x y) refl

  by_rank : List (List ℕ)
  by_rank = in_order (rank_cmp ds) (corpus_terms ds)

  terms_sorted : IsStrictlySortedBy bytes (corpus_terms ds)
  unfolding corpus_terms
  terms_sorted = in_order-sorted bytes nat_list_cmp_total (flat_map (λ d. terms d.text) ds)

  terms_distinct : IsDistinct (eq_by_cmp (rank_cmp ds)) (corpus_terms ds)
  terms_distinct = distinct_same (eq_by_cmp bytes) (eq_by_cmp (rank_cmp ds)) (λ x y. sym (tied x y)) (corpus_terms ds) (IsDistinct-from_sorted bytes (corpus_terms ds) terms_sorted)

  by_rank_sorted : IsStrictlySortedBy (rank_cmp ds) by_rank
  unfolding by_rank
  by_rank_sorted = in_order-sorted (rank_cmp ds) rank_total (corpus_terms ds)

  first_distinct : (most : ℕ) → IsDistinct (eq_by_cmp bytes) (take most by_rank)
  first_distinct most =
      distinct_take (eq_by_cmp bytes) most by_rank (distinct_same (eq_by_cmp (rank_cmp ds)) (eq_by_cmp bytes) tied by_rank (IsDistinct-from_sorted (rank_cmp ds) by_rank by_rank_sorted))

  as_bytes : (w : List ℕ) (xs : List (List ℕ)) → list_any (bytes_eq w) xs ≡ list_any (eq_by_cmp bytes w) xs
  as_bytes w xs = any_same (bytes_eq w) (eq_by_cmp bytes w) xs (λ x. sym (is_eq-slice_cmp w x))

  any_by_rank : (w : List ℕ) → list_any (bytes_eq w) by_rank ≡ list_any (bytes_eq w) (corpus_terms ds)
  unfolding by_rank
  any_by_rank w =
      as_bytes w by_rank
      ∙ any_same (eq_by_cmp bytes w) (eq_by_cmp (rank_cmp ds) w) by_rank (λ x. sym (tied w x))
      ∙ in_order-members (rank_cmp ds) rank_total w (corpus_terms ds)
      ∙ any_same (eq_by_cmp (rank_cmp ds) w) (eq_by_cmp bytes w) (corpus_terms ds) (tied w)
      ∙ sym (as_bytes w (corpus_terms ds))

  any_kept : (most : ℕ) (w : List ℕ) → list_any (bytes_eq w) (vocabulary most ds) ≡ list_any (bytes_eq w) (take most by_rank)
  unfolding vocabulary by_rank
  any_kept most w =
      as_bytes w (vocabulary most ds)
      ∙ in_order-members bytes nat_list_cmp_total w (take most by_rank)
      ∙ sym (as_bytes w (take most by_rank))

  kept_in_terms : (most : ℕ) (w : List ℕ) → list_any (bytes_eq w) (vocabulary most ds) ≡ true → list_any (bytes_eq w) (corpus_terms ds) ≡ true
  kept_in_terms most w is =
      sym (any_by_rank w)
      ∙ ap (list_any (bytes_eq w)) (sym (take-append-drop most by_rank))
      ∙ any_front (bytes_eq w) (take most by_rank) (drop most by_rank) (sym (any_kept most w) ∙ is)

  how_many : (most : ℕ) → length (vocabulary most ds) ≡ min most (length (corpus_terms ds))
  unfolding vocabulary by_rank
  how_many most =
      length-in_order bytes nat_list_cmp_total (take most by_rank) (first_distinct most)
      ∙ length-take most by_rank
      ∙ ap (min most) (length-in_order (rank_cmp ds) rank_total (corpus_terms ds) terms_distinct)

  outside : (most : ℕ) (w : List ℕ) → list_any (bytes_eq w) (corpus_terms ds) ≡ true → list_any (bytes_eq w) (vocabulary most ds) ≡ false → list_any (bytes_eq w) (drop most by_rank) ≡ true
  outside most w is out =
      ap (λ b. b || list_any (bytes_eq w) (drop most by_rank)) (sym (sym (any_kept most w) ∙ out))
      ∙ sym (list_any-append (bytes_eq w) (take most by_rank) (drop most by_rank))
      ∙ ap (list_any (bytes_eq w)) (take-append-drop most by_rank)
      ∙ any_by_rank w
      ∙ is

  pub is_vocabulary : (most : ℕ) → IsVocabulary most ds (vocabulary most ds)
  unfolding vocabulary by_rank
  is_vocabulary most = record {
    ascending = in_order-sorted bytes nat_list_cmp_total (take most by_rank);
    terms = kept_in_terms most;
    count = how_many most;
    first = λ v w in_v in_w out.
        all_at (rank_cmp ds) bytes_eq same_bytes (λ u. rank_cmp ds u w ≡ Less) v (take most by_rank)
        (front_before (rank_cmp ds) bytes_eq same_bytes w (take most by_rank) (drop most by_rank)
        (subst (IsStrictlySortedBy (rank_cmp ds)) (sym (take-append-drop most by_rank)) by_rank_sorted) (outside most w in_w out))
        (sym (any_kept most v) ∙ in_v);
  }

  -- a term of one vocabulary alone comes before each term of the other alone
  comes_first : (most : ℕ) (ws us : List (List ℕ)) → IsVocabulary most ds ws → IsVocabulary most ds us → (v w : List ℕ)
      → list_any (eq_by_cmp bytes v) ws ≡ true → list_any (eq_by_cmp bytes w) us ≡ true → list_any (eq_by_cmp bytes w) ws ≡ false → rank_cmp ds v w ≡ Less
  comes_first most ws us left right v w in_v in_w out =
      left.first v w (as_bytes v ws ∙ in_v) (right.terms w (as_bytes w us ∙ in_w)) (as_bytes w ws ∙ out)

  never : (v w : List ℕ) → rank_cmp ds v w ≡ Less → rank_cmp ds w v ≡ Less → ⊥
  never v w one two = absurd (let both : Less ≡ Greater = sym one ∙ rank_total.antisymm v w ∙ ap ordering_reverse two in cc)

  -- two vocabularies are one
  pub one_vocabulary : (most : ℕ) (ws us : List (List ℕ)) → IsVocabulary most ds ws → IsVocabulary most ds us → ws ≡ us
  one_vocabulary most ws us left right =
      one_unless bytes nat_list_cmp_total exact_bytes ws us left.ascending right.ascending (left.count ∙ sym right.count)
      (λ u w there out here missing. never w u (comes_first most ws us left right w u here there out) (comes_first most us ws right left u w there here missing))
