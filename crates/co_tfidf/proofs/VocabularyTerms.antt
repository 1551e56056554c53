-- What the vocabulary has.
use Rattle.std.proofs.Common.{◌≡◌, ℕ, ◌≤◌, Bool, true, false, ◌||◌, List, [], ◌∷◌, length, take, refl, sym, ap, ◌∙◌, subst, arith, String, is_some}
use Rattle.std.specs.Prelude.{All, map, flat_map}
use Rattle.std.specs.List.{list_any}
use Rattle.std.specs.Str.{bytes_eq}
use Rattle.std.specs.Ordering.{nat_cmp}
use Rattle.std.specs.Cmp.Lexicographic.{slice_cmp, bytes_decides}
use Rattle.std.proofs.lemmas.List.{length-map, length-take}
use Rattle.std.proofs.lemmas.List.Elements.{All-append, All-take, All-map, All-head, All-tail, All-cons, All-nil}
use Rattle.std.proofs.lemmas.List.Concat.{flat_map-cons}
use Rattle.std.proofs.lemmas.List.Sums.{count_by-le-length}
use Rattle.co_text.specs.Terms.{HasSize, terms}
use Rattle.co_text.proofs.InOrder.{in_order-all, length-in_order-le}
use Rattle.co_text.proofs.Sizes.{terms_sized}
use Rattle.co_corpus.specs.declared.documents.Document.{Document}
use Rattle.co_tfidf.specs.declared.postings.Posting.{Posting}
use Rattle.co_tfidf.specs.Counts.{has}
use Rattle.co_text.specs.Order.{in_order}
use Rattle.co_tfidf.specs.Postings.{postings, listed}
use Rattle.co_tfidf.specs.Vocabulary.{corpus_terms, rank_cmp, vocabulary}
use Rattle.co_tfidf.specs.Tables.{shown}
use Rattle.co_tfidf.proofs.CountedTerms.{has_postings, length-postings}
use Rattle.co_tfidf.proofs.KeptTerms.{tab}

itself : (w : List ℕ) → bytes_eq w w ≡ true
itself w = (bytes_decides w w).1 refl

any_more : {A : Type 0} (p : A → Bool) (x : A) (xs : List A) → list_any p xs ≡ true → list_any p (x ∷ xs) ≡ true
any_more p x xs is = elim (p x) as (λ b. (b || list_any p xs) ≡ true) [ true ↦ refl | false ↦ is ]

each_stands : (ws us : List (List ℕ)) → ((w : List ℕ) → list_any (bytes_eq w) us ≡ true → list_any (bytes_eq w) ws ≡ true) → All (λ w. list_any (bytes_eq w) ws ≡ true) us
each_stands ws [] in_ws = All-nil (λ w. list_any (bytes_eq w) ws ≡ true)
each_stands ws (u ∷ us) in_ws =
    All-cons (λ w. list_any (bytes_eq w) ws ≡ true) u us (in_ws u (ap (λ b. b || list_any (bytes_eq u) us) (itself u)))
    (each_stands ws us (λ w is. in_ws w (any_more (bytes_eq w) u us is)))

some_long : (ps : List Posting) → is_some (listed ps) ≡ true → 1 ≤ length ps
some_long [] is = absurd cc
some_long (p ∷ ps) is = omega arith

-- a term of the corpus is in some document, and in no more than there are
posted : (ds : List Document) (w : List ℕ) → list_any (bytes_eq w) (flat_map (λ d. terms d.text) ds) ≡ true → (1 ≤ length (postings w 0 ds)) × (length (postings w 0 ds) ≤ length ds)
posted ds w is = (some_long (postings w 0 ds) (has_postings w 0 ds ∙ is), omega (arith, length-postings w 0 ds, count_by-le-length (has w) ds))

all_posted : (ds : List Document) (ws : List (List ℕ)) → All (λ w. list_any (bytes_eq w) (flat_map (λ d. terms d.text) ds) ≡ true) ws
    → All (λ w. (1 ≤ length (postings w 0 ds)) × (length (postings w 0 ds) ≤ length ds)) ws
all_posted ds ws all = λ k d h. posted ds _ (all k d h)

vocabulary_posted : (most : ℕ) (ds : List Document) → All (λ w. (1 ≤ length (postings w 0 ds)) × (length (postings w 0 ds) ≤ length ds)) (vocabulary most ds)
unfolding vocabulary corpus_terms
vocabulary_posted most ds =
    let P : List ℕ → Type 0 = λ w. (1 ≤ length (postings w 0 ds)) × (length (postings w 0 ds) ≤ length ds) in
    let all = all_posted ds _ (each_stands (flat_map (λ d. terms d.text) ds) (flat_map (λ d. terms d.text) ds) (λ w is. is)) in
    in_order-all (slice_cmp nat_cmp) P _ (All-take P most _ (in_order-all (rank_cmp ds) P _ (in_order-all (slice_cmp nat_cmp) P _ all)))

unmap : {A B : Type 0} (P : B → Type 0) (f : A → B) (xs : List A) → All P (map f xs) → All (λ x. P (f x)) xs
unmap P f [] all = All-nil (λ x. P (f x))
unmap P f (x ∷ xs) all = All-cons (λ y. P (f y)) x xs (All-head P (f x) (map f xs) all) (unmap P f xs (All-tail P (f x) (map f xs) all))

-- each term that is kept has a posting, and no more than there are documents
pub each_kept : {Y : Type 0} (most : ℕ) (ds : List Document) (es : List (String Y × List Posting)) → map shown es ≡ map (tab ds) (vocabulary most ds)
    → All (λ e. (1 ≤ length e.1) × (length e.1 ≤ length ds)) es
each_kept most ds es table =
    let P : List ℕ × List Posting → Type 0 = λ e. (1 ≤ length e.1) × (length e.1 ≤ length ds) in
    unmap P shown es (subst (All P) (sym table) (All-map P (tab ds) (vocabulary most ds) (vocabulary_posted most ds)))

length-take-most : {A : Type 0} (n : ℕ) (xs : List A) → length (take n xs) ≤ n
length-take-most n xs = omega (arith, length-take n xs)

pub length-vocabulary : (most : ℕ) (ds : List Document) → length (vocabulary most ds) ≤ most
unfolding vocabulary
length-vocabulary most ds =
    omega (arith, length-in_order-le (slice_cmp nat_cmp) (take most (in_order (rank_cmp ds) (corpus_terms ds))), length-take-most most (in_order (rank_cmp ds) (corpus_terms ds)))

-- no more are kept than may be
pub few_kept : {Y : Type 0} (most : ℕ) (ds : List Document) (es : List (String Y × List Posting)) → map shown es ≡ map (tab ds) (vocabulary most ds) → length es ≤ most
few_kept most ds es table =
    omega (arith, length-map es shown, ap length table, length-map (vocabulary most ds) (tab ds), length-vocabulary most ds)

-- each term has 1 to 64 bytes
all_sized : (ds : List Document) → All HasSize (flat_map (λ (d : Document). terms d.text) ds)
all_sized [] = All-nil HasSize
all_sized (d ∷ ds) =
    subst (λ (ts : List (List ℕ)). All HasSize ts) (sym (flat_map-cons (λ (e : Document). terms e.text) d ds))
    (All-append HasSize (terms d.text) (flat_map (λ (e : Document). terms e.text) ds) (terms_sized d.text) (all_sized ds))

pub vocabulary_sized : (most : ℕ) (ds : List Document) → All HasSize (vocabulary most ds)
unfolding vocabulary corpus_terms
vocabulary_sized most ds =
    in_order-all (slice_cmp nat_cmp) HasSize _ (All-take HasSize most _ (in_order-all (rank_cmp ds) HasSize _ (in_order-all (slice_cmp nat_cmp) HasSize _ (all_sized ds))))
