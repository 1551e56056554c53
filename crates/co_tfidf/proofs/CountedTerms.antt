-- A map that counts a corpus has the distinct terms with their postings.
use Rattle.std.proofs.Common.{◌≡◌, ℕ, ◌+◌, ◌<◌, Bool, true, false, cond, ◌||◌, List, [], ◌∷◌, ◌++◌, length, refl, sym, ap, ◌∙◌, arith, nat_lt, Some, is_some, String, BTreeMap, string_bytes}
use Rattle.std.specs.Prelude.{All, map, flat_map, min}
use Rattle.std.specs.List.{list_any, AllByRecursion}
use Rattle.std.specs.List.Sorted.{IsStrictlySortedBy}
use Rattle.std.specs.Str.{bytes_eq}
use Rattle.std.specs.Map.{keys_of}
use Rattle.std.specs.BTreeMap.{get_by_text, is_at, IsOrdered}
use Rattle.std.specs.String.{string_cmp, string_cmp_total}
use Rattle.std.specs.Ordering.{nat_cmp, eq_by_cmp}
use Rattle.std.specs.Cmp.Lexicographic.{slice_cmp}
use Rattle.std.specs.declared.cmp.Ordering.{Ordering}
use Rattle.std.specs.declared.cmp.Ordering.TheVariants.{Less}
use Rattle.std.proofs.lemmas.List.Folds.{list_any-append}
use Rattle.std.proofs.lemmas.List.Sums.{sum_by-cons}
use Rattle.std.proofs.lemmas.List.{length-append}
use Rattle.std.proofs.lemmas.Bool.{ltb-false}
use Rattle.std.proofs.lemmas.Map.Made.{is_some-lookup}
use Rattle.std.proofs.lemmas.Map.Views.{All-found}
use Rattle.std.proofs.lemmas.Map.Text.{is_eq-slice_cmp}
use Rattle.std.proofs.lemmas.Map.Lookups.{exact_bytes}
use Rattle.std.proofs.lemmas.Cmp.{nat_list_cmp_total}
use Rattle.co_text.specs.Terms.{terms}
use Rattle.co_corpus.specs.declared.documents.Document.{Document}
use Rattle.co_tfidf.specs.declared.postings.Posting.{Posting}
use Rattle.co_tfidf.specs.Counts.{term_frequency, has, document_frequency}
use Rattle.co_tfidf.specs.Postings.{posting, postings, listed}
use Rattle.co_tfidf.specs.Vocabulary.{corpus_terms}
use Rattle.co_tfidf.specs.Tables.{shown}
use Rattle.std.proofs.lemmas.List.Elements.{All-head, All-tail}
use Rattle.co_text.proofs.Sorted.{sorted_same}
use Rattle.co_text.proofs.InOrder.{in_order-sorted, in_order-members}

less_at : (a b : ℕ) → a < b → (c : Bool) → nat_lt a b ≡ c → c ≡ true
less_at a b less true is = refl
less_at a b less false is = absurd (omega (arith, ltb-false a b is))

less_test : (a b : ℕ) → a < b → nat_lt a b ≡ true
less_test a b less = less_at a b less (nat_lt a b) refl

some_more : (b : Bool) (n : ℕ) → nat_lt 0 (cond b 1 0 + n) ≡ (b || nat_lt 0 n)
some_more true n = less_test 0 (1 + n) (omega arith)
some_more false n = ap (nat_lt 0) (omega arith)

-- a term stands in a list if it stands there at least once
pub some_times : (w : List ℕ) (ts : List (List ℕ)) → nat_lt 0 (term_frequency w ts) ≡ list_any (bytes_eq w) ts
some_times w [] = refl
some_times w (t ∷ ts) =
    ap (nat_lt 0) (sum_by-cons (λ u. cond (bytes_eq w u) 1 0) t ts)
    ∙ some_more (bytes_eq w t) (term_frequency w ts)
    ∙ ap (λ b. bytes_eq w t || b) (some_times w ts)

length-posting : (document k : ℕ) (b : Bool) → length (cond {A = List Posting} b (record { document = document; count = min k 63 } ∷ []) []) ≡ cond b 1 0
length-posting document k true = refl
length-posting document k false = refl

-- a term has as many postings as documents have it
pub length-postings : (w : List ℕ) (m : ℕ) (ds : List Document) → length (postings w m ds) ≡ document_frequency w ds
length-postings w m [] = refl
length-postings w m (d ∷ ds) =
    length-append (posting m (term_frequency w (terms d.text))) (postings w (m + 1) ds)
    ∙ rw (length-posting m (term_frequency w (terms d.text)) (nat_lt 0 (term_frequency w (terms d.text))), some_times w (terms d.text), length-postings w (m + 1) ds)
    (sym (sum_by-cons (λ e. cond (has w e) 1 0) d ds))

some_of_two : (xs ys : List Posting) → is_some (listed (xs ++ ys)) ≡ (is_some (listed xs) || is_some (listed ys))
some_of_two [] ys = refl
some_of_two (x ∷ xs) ys = refl

some_posting : (document k : ℕ) (b : Bool) → is_some (listed (cond {A = List Posting} b (record { document = document; count = min k 63 } ∷ []) [])) ≡ b
some_posting document k true = refl
some_posting document k false = refl

-- a term of a corpus has postings
pub has_postings : (w : List ℕ) (m : ℕ) (ds : List Document) → is_some (listed (postings w m ds)) ≡ list_any (bytes_eq w) (flat_map (λ d. terms d.text) ds)
has_postings w m [] = refl
has_postings w m (d ∷ ds) =
    some_of_two (posting m (term_frequency w (terms d.text))) (postings w (m + 1) ds)
    ∙ rw (some_posting m (term_frequency w (terms d.text)) (nat_lt 0 (term_frequency w (terms d.text))), some_times w (terms d.text), has_postings w (m + 1) ds)
    (sym (list_any-append (bytes_eq w) (terms d.text) (flat_map (λ e. terms e.text) ds)))

listed_some : (ps v : List Posting) → listed ps ≡ Some v → ps ≡ v
listed_some [] v is = absurd cc
listed_some (p ∷ ps) v is = cc

any_map : {A B : Type 0} (p : B → Bool) (f : A → B) (xs : List A) → list_any p (map f xs) ≡ list_any (λ x. p (f x)) xs
any_map p f [] = refl
any_map p f (x ∷ xs) = ap (λ b. p (f x) || b) (any_map p f xs)

pub any_same : {A : Type 0} (p q : A → Bool) (xs : List A) → ((x : A) → p x ≡ q x) → list_any p xs ≡ list_any q xs
any_same p q [] same = refl
any_same p q (x ∷ xs) same = rw (same x, any_same p q xs same) refl

module _ {K L : Type 0} (R : K → K → Ordering) (S : L → L → Ordering) (f : K → L) (same : (x y : K) → R x y ≡ S (f x) (f y)) where
  above_map : (x : K) (xs : List K) → AllByRecursion (λ y. R x y ≡ Less) xs → AllByRecursion (λ y. S (f x) y ≡ Less) (map f xs)
  above_map x [] all = tt
  above_map x (y ∷ ys) all = (sym (same x y) ∙ all.0, above_map x ys all.1)

  sorted_map : (xs : List K) → IsStrictlySortedBy R xs → IsStrictlySortedBy S (map f xs)
  unfolding IsStrictlySortedBy
  sorted_map [] sorted = tt
  sorted_map (x ∷ xs) sorted = (above_map x xs sorted.0, sorted_map xs sorted.1)

module _ {Y : Type 0} (m : BTreeMap (String Y) (List Posting)) (ds : List Document)
    (lookups : (w : List ℕ) → get_by_text m w ≡ listed (postings w 0 ds)) (ordered : IsOrdered (string_cmp {Z = Y}) m) where
  values : All (λ e. postings (string_bytes e.0) 0 ds ≡ e.1) m.entries
  values = λ k e h. listed_some _ _ (sym (lookups _) ∙ All-found string_cmp_total m ordered k e h)

  with_postings : (es : List (String Y × List Posting)) → All (λ e. postings (string_bytes e.0) 0 ds ≡ e.1) es
      → map shown es ≡ map (λ w. (w, postings w 0 ds)) (map (string_bytes {Z = Y}) (keys_of es))
  with_postings [] all = refl
  with_postings (e ∷ es) all =
      rw (All-head (λ x. postings (string_bytes x.0) 0 ds ≡ x.1) e es all, with_postings es (All-tail (λ x. postings (string_bytes x.0) 0 ds ≡ x.1) e es all)) refl

  members : (q : List ℕ) → list_any (eq_by_cmp (slice_cmp nat_cmp) q) (map (string_bytes {Z = Y}) (keys_of m.entries)) ≡ list_any (eq_by_cmp (slice_cmp nat_cmp) q) (corpus_terms ds)
  unfolding corpus_terms
  members q =
      any_map (eq_by_cmp (slice_cmp nat_cmp) q) (string_bytes {Z = Y}) (keys_of m.entries)
      ∙ sym (is_some-lookup (is_at (λ (k : String Y). slice_cmp nat_cmp q (string_bytes k))) m.entries)
      ∙ ap is_some (lookups q)
      ∙ has_postings q 0 ds
      ∙ any_same (bytes_eq q) (eq_by_cmp (slice_cmp nat_cmp) q) (flat_map (λ d. terms d.text) ds) (λ x. sym (is_eq-slice_cmp q x))
      ∙ sym (in_order-members (slice_cmp nat_cmp) nat_list_cmp_total q (flat_map (λ d. terms d.text) ds))

  keys_are : map (string_bytes {Z = Y}) (keys_of m.entries) ≡ corpus_terms ds
  unfolding corpus_terms
  keys_are = sorted_same (slice_cmp nat_cmp) nat_list_cmp_total exact_bytes _ _
      (sorted_map (string_cmp {Z = Y}) (slice_cmp nat_cmp) (string_bytes {Z = Y}) (λ x y. refl) (keys_of m.entries) ordered)
      (in_order-sorted (slice_cmp nat_cmp) nat_list_cmp_total (flat_map (λ d. terms d.text) ds))
      members

  pub counted_terms : map shown m.entries ≡ map (λ w. (w, postings w 0 ds)) (corpus_terms ds)
  counted_terms = with_postings m.entries values ∙ ap (map (λ w. (w, postings w 0 ds))) keys_are
