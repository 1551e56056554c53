-- Where a binary search finds a term among ascending terms.
use Rattle.std.proofs.Common.{◌≡◌, ℕ, ◌+◌, ◌<◌, Bool, true, false, cond, List, length, get_or, refl, sym, ap, ◌∙◌, arith, nat_lt, Some, None, Result, Ok, Err, []}
use Rattle.std.specs.Prelude.{position}
use Rattle.std.specs.Result.{result_ok}
use Rattle.std.specs.List.{position_or_len}
use Rattle.std.specs.List.Sorted.{IsStrictlySortedBy, IsSortedBy, IsPartitionPoint, IsBinarySearchResult, IsSearchInRange}
use Rattle.std.specs.Str.{bytes_eq}
use Rattle.std.specs.Ordering.{nat_cmp, is_eq, is_lt, ordering_reverse}
use Rattle.std.specs.Cmp.Lexicographic.{slice_cmp, bytes_decides}
use Rattle.std.specs.declared.cmp.Ordering.TheVariants.{Less, Greater}
use Rattle.std.proofs.lemmas.Cmp.{nat_list_cmp_total}
use Rattle.std.proofs.lemmas.Bool.{ltb-true, ltb-false, lt-ltb, le-ltb}
use Rattle.std.proofs.lemmas.List.Sums.{position_or_len_is}
use Rattle.std.proofs.lemmas.List.Sorted.{searchable_from_sorted}
use Rattle.std.proofs.lemmas.Map.Keys.{Less-from_sorted}
use Rattle.std.proofs.lemmas.Map.Text.{is_eq-slice_cmp}
use Rattle.std.proofs.lemmas.Map.Lookups.{exact_bytes}

rising : (ws : List (List ℕ)) → IsStrictlySortedBy (slice_cmp nat_cmp) ws → IsSortedBy (λ a b. is_lt (slice_cmp nat_cmp a b)) ws
rising ws sorted = λ k d low high.
    ap is_lt (nat_list_cmp_total.antisymm (get_or ws (k + 1) d) (get_or ws k d) ∙ ap ordering_reverse (Less-from_sorted (slice_cmp nat_cmp) ws k (k + 1) d sorted (omega arith) high))

apart_below : (w x : List ℕ) → slice_cmp nat_cmp x w ≡ Less → bytes_eq w x ≡ false
apart_below w x less = sym (is_eq-slice_cmp w x) ∙ ap is_eq (nat_list_cmp_total.antisymm w x ∙ ap ordering_reverse less)

apart_above : (w x : List ℕ) → slice_cmp nat_cmp x w ≡ Greater → bytes_eq w x ≡ false
apart_above w x more = sym (is_eq-slice_cmp w x) ∙ ap is_eq (nat_list_cmp_total.antisymm w x ∙ ap ordering_reverse more)

apart_at : (ws : List (List ℕ)) (w : List ℕ) (i : ℕ) → IsPartitionPoint (λ y. slice_cmp nat_cmp y w ≡ Less) (λ y. slice_cmp nat_cmp y w ≡ Greater) ws i
    → (k : ℕ) (d : List ℕ) → k < length ws → (b : Bool) → nat_lt k i ≡ b → bytes_eq w (get_or ws k d) ≡ false
apart_at ws w i point k d within true below = apart_below w _ (point.0 k d (omega arith) (ltb-true k i below))
apart_at ws w i point k d within false above = apart_above w _ (point.1 k d (ltb-false k i above) within)

at_place : (ws : List (List ℕ)) (w : List ℕ) (i : ℕ) → position_or_len (bytes_eq w) ws ≡ i → i < length ws → position (bytes_eq w) ws ≡ Some i
at_place ws w i is within = rw is (ap (λ b. cond b (Some i) None) (lt-ltb i (length ws) within))

no_place : (ws : List (List ℕ)) (w : List ℕ) → position_or_len (bytes_eq w) ws ≡ length ws → position (bytes_eq w) ws ≡ None
no_place ws w is =
    let none : cond (nat_lt (length ws) (length ws)) (Some (length ws)) None ≡ None = ap (λ b. cond b (Some (length ws)) None) (le-ltb (length ws) (length ws) (omega arith)) in
    rw is none

-- among ascending terms a term has one number
pub number_at : (ws : List (List ℕ)) (w : List ℕ) (i : ℕ) → IsStrictlySortedBy (slice_cmp nat_cmp) ws → i < length ws → get_or ws i [] ≡ w → position (bytes_eq w) ws ≡ Some i
number_at ws w i sorted within is =
    at_place ws w i
    (position_or_len_is (bytes_eq w) ws i [] (omega arith)
    (λ k below. apart_below w (get_or ws k []) (ap (slice_cmp nat_cmp (get_or ws k [])) (sym is) ∙ Less-from_sorted (slice_cmp nat_cmp) ws k i [] sorted below within))
    (λ h. (bytes_decides w (get_or ws i [])).1 (sym is)))
    within

pub searched : (ws : List (List ℕ)) (w : List ℕ) (r : Result ℕ ℕ) → IsStrictlySortedBy (slice_cmp nat_cmp) ws → IsSearchInRange r (length ws)
    → IsBinarySearchResult (λ y. slice_cmp nat_cmp y w) ws r → result_ok r ≡ position (bytes_eq w) ws
searched ws w (Ok i) sorted within found = sym (number_at ws w i sorted within (exact_bytes (get_or ws i []) w (found [])))
searched ws w (Err i) sorted within found =
    let point = found (searchable_from_sorted nat_list_cmp_total (λ y. y) ws w (rising ws sorted)) in
    sym (no_place ws w (position_or_len_is (bytes_eq w) ws (length ws) [] (omega arith) (λ k below. apart_at ws w i point k [] below (nat_lt k i) refl) (λ h. absurd (omega arith))))
