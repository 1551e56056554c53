-- Steps at the buckets of documents: lists that grow, and counts.
use Rattle.std.proofs.Common.{◌≡◌, ◌+◌, ◌<◌, ℕ, Bool, true, false, ◌||◌, List, [], ◌∷◌, ◌++◌, length, length-set, get_or, set, eqb, zero, suc, add-zero, add-one, refl, sym, ap, ◌∙◌, inl, inr, arith, get_or-set_other, get_or-set_same, if◌then◌else◌}
use Rattle.std.specs.List.{filter, range_with_len}
use Rattle.std.specs.declared.vec.Vec.{Vec}
use Rattle.std.specs.declared.alloc.Global.{Global}
use Rattle.std.proofs.lemmas.Bool.{eq-eqb, cases_Bool}
use Rattle.std.proofs.lemmas.List.{get_or-map, append-nil, map-set, ext_get_or}
use Rattle.std.proofs.lemmas.List.Folds.{list_any-append}
use Rattle.std.proofs.Math.Bool.{or-false}
use Rattle.std.proofs.lemmas.List.FromFn.{length-map-range_with_len, get_or-map-range_with_len}
use Rattle.std.proofs.lemmas.List.Elements.{filter-append}
use Rattle.co_bucket.specs.Lists.{is_in, may_stand, candidates_of, listed, lists_of}
use Rattle.co_bucket.specs.Filling.{contents, IsStepped}
use Rattle.co_bucket.proofs.Reaching.{by_eq, apart_tests}

pub contents_set : (vs : List (Vec ℕ Global)) (b : ℕ) (v w : Vec ℕ Global) (d : ℕ) → b < length vs → v.items ≡ (get_or vs b w).items ++ d ∷ []
    → contents (set vs b v) ≡ set (contents vs) b (get_or (contents vs) b [] ++ d ∷ [])
contents_set vs b v w d in_vs is =
    map-set (λ (x : Vec ℕ Global). x.items) vs b v ∙ ap (λ xs. set (contents vs) b xs) (is ∙ ap (λ xs. xs ++ d ∷ []) (sym (get_or-map (λ (x : Vec ℕ Global). x.items) vs b w [] in_vs)))

pub is_in-push : (row : List ℕ) (b k : ℕ) → is_in (row ++ b ∷ []) k ≡ (is_in row k || eqb b k)
is_in-push row b k = list_any-append (λ (x : ℕ). eqb x k) row (b ∷ []) ∙ ap (λ t. is_in row k || t) (or-false (eqb b k))

or_true : (t : Bool) → (t || true) ≡ true
or_true true = refl
or_true false = refl

-- one bucket more is there, and another is there as before
is_in-same : (seen : List ℕ) (b : ℕ) → is_in (seen ++ b ∷ []) b ≡ true
is_in-same seen b = is_in-push seen b b ∙ ap (λ t. is_in seen b || t) (eq-eqb b b refl) ∙ or_true (is_in seen b)

is_in-other : (seen : List ℕ) (b k : ℕ) → (k ≡ b → ⊥) → is_in (seen ++ b ∷ []) k ≡ is_in seen k
is_in-other seen b k other = is_in-push seen b k ∙ ap (λ t. is_in seen k || t) (apart_tests b k (λ e. other (sym e))) ∙ or-false (is_in seen k)

-- the step at one bucket more
pub stepped_more : {X : Type 0} (none : X) (step : X → X) (before now now' : List X) (seen : List ℕ) (b : ℕ) → b < length before → IsStepped none step before seen now
    → now' ≡ (if is_in seen b then now else set now b (step (get_or now b none)))
    → IsStepped none step before (seen ++ b ∷ []) now'
stepped_more {X} none step before now now' seen b in_before is now_is = elim (cases_Bool (is_in seen b)) [
  | inl there ↦ (
      let same : now' ≡ now = now_is ∙ ap (λ t. if t then now else set now b (step (get_or now b none))) there in record {
        many = ap length same ∙ is.many;
        each = λ k below. ap (λ (xs : List X). get_or xs k none) same ∙ is.each k below ∙ ap (λ t. if t then step (get_or before k none) else get_or before k none) (by_eq k b
            (λ here. ap (is_in seen) here ∙ there ∙ sym (ap (is_in (seen ++ b ∷ [])) here ∙ is_in-same seen b))
            (λ other. sym (is_in-other seen b k other)));
      })
  | inr lacks ↦ (
      let same : now' ≡ set now b (step (get_or now b none)) = now_is ∙ ap (λ t. if t then now else set now b (step (get_or now b none))) lacks in record {
        many = ap length same ∙ length-set now b (step (get_or now b none)) ∙ is.many;
        each = λ k below. ap (λ (xs : List X). get_or xs k none) same ∙ by_eq k b
            (λ here. let in_now : b < length now = omega (arith, is.many) in
            ap (λ i. get_or (set now b (step (get_or now b none))) i none) here ∙ get_or-set_same now b (step (get_or now b none)) none in_now
            ∙ ap step (is.each b in_before ∙ ap (λ t. if t then step (get_or before b none) else get_or before b none) lacks)
            ∙ sym (ap (λ i. if is_in (seen ++ b ∷ []) i then step (get_or before i none) else get_or before i none) here
            ∙ ap (λ t. if t then step (get_or before b none) else get_or before b none) (is_in-same seen b)))
            (λ other. get_or-set_other now b k (step (get_or now b none)) none other ∙ is.each k below
            ∙ ap (λ t. if t then step (get_or before k none) else get_or before k none) (sym (is_in-other seen b k other)));
      })
]

range_more : (a n : ℕ) → range_with_len a (suc n) ≡ range_with_len a n ++ (a + n) ∷ []
range_more a zero = ap (λ x. x ∷ []) (sym (add-zero a))
range_more a (suc n) = ap (λ xs. a ∷ xs) (range_more (a + 1) n ∙ (let e : a + 1 + n ≡ a + suc n = omega arith in ap (λ x. range_with_len (a + 1) n ++ x ∷ []) e))

chosen : (b : Bool) (xs : List ℕ) (n : ℕ) → xs ++ (if b then n ∷ [] else []) ≡ (if b then xs ++ n ∷ [] else xs)
chosen true xs n = refl
chosen false xs n = append-nil xs

-- what a bucket lists with one document more
pub listed_more : (salt buckets n k : ℕ) → listed salt buckets (n + 1) k ≡ (if may_stand salt buckets k n then listed salt buckets n k ++ n ∷ [] else listed salt buckets n k)
listed_more salt buckets n k =
    ap (λ m. filter (may_stand salt buckets k) (range_with_len 0 m)) (add-one n) ∙ ap (filter (may_stand salt buckets k)) (range_more 0 n ∙ (let e : 0 + n ≡ n = omega arith in ap (λ x. range_with_len 0 n ++ x ∷ []) e))
    ∙ filter-append (may_stand salt buckets k) (range_with_len 0 n) (n ∷ []) ∙ chosen (may_stand salt buckets k n) (listed salt buckets n k) n

-- the first documents are listed
pub record IsFilled (salt buckets document : ℕ) (lists : List (List ℕ)) : Type 0 where
  pub many : length lists ≡ buckets
  pub each : (k : ℕ) → k < buckets → get_or lists k [] ≡ listed salt buckets document k

pub filled_more : (salt buckets n : ℕ) (now now' : List (List ℕ)) → IsFilled salt buckets n now → IsStepped [] (λ list. list ++ n ∷ []) now (candidates_of salt buckets n) now' → IsFilled salt buckets (n + 1) now'
filled_more salt buckets n now now' is put = record {
  many = put.many ∙ is.many;
  each = λ k below. put.each k (omega (arith, is.many)) ∙ ap (λ (xs : List ℕ). if may_stand salt buckets k n then xs ++ n ∷ [] else xs) (is.each k below) ∙ sym (listed_more salt buckets n k);
}

pub filled_all : (salt buckets documents : ℕ) (lists : List (List ℕ)) → IsFilled salt buckets documents lists → lists ≡ lists_of salt buckets documents
filled_all salt buckets documents lists is =
    ext_get_or [] lists (lists_of salt buckets documents) (is.many ∙ sym (length-map-range_with_len (listed salt buckets documents) 0 buckets))
    (λ k below. is.each k (omega (arith, is.many)) ∙ sym (get_or-map-range_with_len (listed salt buckets documents) 0 buckets k k [] (omega (arith, is.many)) (omega arith)))
