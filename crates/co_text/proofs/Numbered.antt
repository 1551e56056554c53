-- Distinct terms, and the numbers of terms in a vocabulary.
use Rattle.std.proofs.Common.{◌≡◌, ℕ, ◌<◌, ◌≤◌, Bool, true, false, cond, not, eqb, ◌||◌, List, [], ◌∷◌, length, get_or, Option, Some, None, refl, sym, ap, ◌∙◌, arith, nat_lt, is_some}
use Rattle.std.specs.Prelude.{All, slice_get, filter}
use Rattle.std.specs.List.{list_any, position_or_len, IsDistinct, AllByRecursion, cons_option}
use Rattle.std.specs.List.Sorted.{IsStrictlySortedBy}
use Rattle.std.specs.Str.{bytes_eq}
use Rattle.std.specs.Ordering.{nat_cmp}
use Rattle.std.specs.Cmp.Lexicographic.{slice_cmp, bytes_decides}
use Rattle.std.proofs.lemmas.Bool.{eqb-true, ltb-false, true≢false}
use Rattle.std.proofs.lemmas.Option.{slice_get-get_or, slice_get_within}
use Rattle.std.proofs.lemmas.Map.Keys.{IsDistinct-cons, IsDistinct-head, IsDistinct-tail, any_passes_from_place}
use Rattle.std.proofs.lemmas.List.Elements.{All-cons, All-nil}
use Rattle.std.proofs.lemmas.List.Folds.{list_any_none}
use Rattle.std.proofs.lemmas.List.Quantifiers.{position-Some}
use Rattle.std.proofs.lemmas.List.Sums.{fails_before_first, length-filter, count_by-le-length}
use Rattle.co_text.specs.Terms.{distinct}
use Rattle.co_text.specs.Numbers.{number_of, numbers_of}
use Rattle.co_text.proofs.Distinct.{any_without}
use Rattle.co_text.proofs.Searched.{number_at}

-- ---- distinct terms stand once

filter_all : {X : Type 0} (P : X → Type 0) (p : X → Bool) (xs : List X) → AllByRecursion P xs → AllByRecursion P (filter p xs)
filter_all P p [] h = tt
filter_all P p (x ∷ xs) h = step (filter_all P p xs h.1) (p x)
  where
    step : AllByRecursion P (filter p xs) → (b : Bool) → AllByRecursion P (cond b (x ∷ filter p xs) (filter p xs))
    step rest true = (h.0, rest)
    step rest false = rest

filter_apart : (w : List ℕ) (xs : List (List ℕ)) → AllByRecursion (λ y. bytes_eq w y ≡ false) (filter (λ u. not (bytes_eq w u)) xs)
filter_apart w [] = tt
filter_apart w (x ∷ xs) = step (filter_apart w xs) (bytes_eq w x) refl
  where
    step : AllByRecursion (λ y. bytes_eq w y ≡ false) (filter (λ u. not (bytes_eq w u)) xs) → (b : Bool) → bytes_eq w x ≡ b
        → AllByRecursion (λ y. bytes_eq w y ≡ false) (cond (not b) (x ∷ filter (λ u. not (bytes_eq w u)) xs) (filter (λ u. not (bytes_eq w u)) xs))
    step others true e = others
    step others false e = (e, others)

filter_distinct : (p : List ℕ → Bool) (xs : List (List ℕ)) → IsDistinct bytes_eq xs → IsDistinct bytes_eq (filter p xs)
filter_distinct p [] h = h
filter_distinct p (x ∷ xs) h = step (filter_distinct p xs (IsDistinct-tail bytes_eq x xs h)) (p x)
  where
    step : IsDistinct bytes_eq (filter p xs) → (b : Bool) → IsDistinct bytes_eq (cond b (x ∷ filter p xs) (filter p xs))
    step others true = IsDistinct-cons bytes_eq x (filter p xs) (filter_all (λ y. bytes_eq x y ≡ false) p xs (IsDistinct-head bytes_eq x xs h)) others
    step others false = others

pub distinct_once : (ws : List (List ℕ)) → IsDistinct bytes_eq (distinct ws)
unfolding IsDistinct
distinct_once [] = tt
distinct_once (w ∷ ws) =
    IsDistinct-cons bytes_eq w (filter (λ u. not (bytes_eq w u)) (distinct ws)) (filter_apart w (distinct ws)) (filter_distinct (λ u. not (bytes_eq w u)) (distinct ws) (distinct_once ws))

filter_others : (w : List ℕ) (xs : List (List ℕ)) → AllByRecursion (λ y. bytes_eq w y ≡ false) xs → filter (λ u. not (bytes_eq w u)) xs ≡ xs
filter_others w [] h = refl
filter_others w (x ∷ xs) h =
    ap (λ (b : Bool). cond (not b) (x ∷ filter (λ u. not (bytes_eq w u)) xs) (filter (λ u. not (bytes_eq w u)) xs)) h.0 ∙ ap (λ ys. x ∷ ys) (filter_others w xs h.1)

distinct_same : (ws : List (List ℕ)) → IsDistinct bytes_eq ws → distinct ws ≡ ws
distinct_same [] h = refl
distinct_same (w ∷ ws) h =
    ap (λ us. w ∷ filter (λ u. not (bytes_eq w u)) us) (distinct_same ws (IsDistinct-tail bytes_eq w ws h)) ∙ ap (λ us. w ∷ us) (filter_others w ws (IsDistinct-head bytes_eq w ws h))

pub distinct_again : (ws : List (List ℕ)) → distinct (distinct ws) ≡ distinct ws
distinct_again ws = distinct_same (distinct ws) (distinct_once ws)

without : (w t : List ℕ) (ws : List (List ℕ)) → list_any (bytes_eq w) (distinct ws) ≡ list_any (bytes_eq w) ws → (b : Bool) → bytes_eq w t ≡ b
    → (b || list_any (bytes_eq w) (filter (λ u. not (bytes_eq t u)) (distinct ws))) ≡ (b || list_any (bytes_eq w) ws)
without w t ws rest true same = refl
without w t ws rest false other = any_without w t other (distinct ws) ∙ rest

pub distinct_members : (ws : List (List ℕ)) (w : List ℕ) → list_any (bytes_eq w) (distinct ws) ≡ list_any (bytes_eq w) ws
distinct_members [] w = refl
distinct_members (t ∷ ts) w = without w t ts (distinct_members ts w) (bytes_eq w t) refl

pub distinct_few : (ws : List (List ℕ)) → length (distinct ws) ≤ length ws
distinct_few [] = omega arith
distinct_few (w ∷ ws) =
    omega (arith, distinct_few ws, length-filter (λ u. not (bytes_eq w u)) (distinct ws), count_by-le-length (λ u. not (bytes_eq w u)) (distinct ws))

-- ---- the number of a term

pub number_known : (ws : List (List ℕ)) (w : List ℕ) (i : ℕ) → number_of ws w ≡ Some i → slice_get ws i ≡ Some w
number_known ws w i is =
    let at = position-Some (bytes_eq w) ws i [] is in
    let same : get_or ws i [] ≡ w = sym ((bytes_decides w (get_or ws i [])).0 at.1) in
    slice_get-get_or ws i [] at.0 ∙ ap Some same

pub number_member : (ws : List (List ℕ)) (w : List ℕ) (i : ℕ) → number_of ws w ≡ Some i → list_any (bytes_eq w) ws ≡ true
number_member ws w i is = any_passes_from_place (bytes_eq w) ws i w (number_known ws w i is) ((bytes_decides w w).1 refl)

unknown_at : (w : List ℕ) (ws : List (List ℕ)) (b : Bool) → nat_lt (position_or_len (bytes_eq w) ws) (length ws) ≡ b
    → cond b (Some (position_or_len (bytes_eq w) ws)) None ≡ None → list_any (bytes_eq w) ws ≡ false
unknown_at w ws true less is = absurd cc
unknown_at w ws false over is = list_any_none (bytes_eq w) ws (λ k d h. fails_before_first (bytes_eq w) ws k d (omega (arith, ltb-false _ _ over)))

pub number_unknown : (ws : List (List ℕ)) (w : List ℕ) → number_of ws w ≡ None → list_any (bytes_eq w) ws ≡ false
number_unknown ws w is = unknown_at w ws (nat_lt (position_or_len (bytes_eq w) ws) (length ws)) refl is

some_same : (ws : List (List ℕ)) (w : List ℕ) (i : ℕ) → slice_get ws i ≡ Some w → get_or ws i [] ≡ w
some_same ws w i is =
    let one : Some (get_or ws i []) ≡ Some w = sym (slice_get-get_or ws i [] (slice_get_within ws i w is)) ∙ is in
    cc

-- among ascending terms a term's place is its number
pub number_placed : (ws : List (List ℕ)) (w : List ℕ) (i : ℕ) → IsStrictlySortedBy (slice_cmp nat_cmp) ws → slice_get ws i ≡ Some w → number_of ws w ≡ Some i
number_placed ws w i sorted is = number_at ws w i sorted (slice_get_within ws i w is) (some_same ws w i is)

-- ---- the numbers of terms

-- what a known term adds, and its number
by_number : (ws : List (List ℕ)) (w : List ℕ) (P : Option ℕ → Type 0) → (number_of ws w ≡ None → P None) → ((i : ℕ) → number_of ws w ≡ Some i → P (Some i)) → P (number_of ws w)
by_number ws w P none some = step (number_of ws w) refl
  where
    step : (o : Option ℕ) → number_of ws w ≡ o → P o
    step None e = none e
    step (Some i) e = some i e

pub numbers_few : (vocabulary ws : List (List ℕ)) → length (numbers_of vocabulary ws) ≤ length ws
numbers_few vocabulary [] = omega arith
numbers_few vocabulary (w ∷ ws) =
    by_number vocabulary w (λ o. length (cons_option o (numbers_of vocabulary ws)) ≤ length (w ∷ ws)) (λ e. omega (arith, numbers_few vocabulary ws)) (λ i e. omega (arith, numbers_few vocabulary ws))

pub numbers_within : (vocabulary ws : List (List ℕ)) → All (λ n. n < length vocabulary) (numbers_of vocabulary ws)
numbers_within vocabulary [] = All-nil (λ n. n < length vocabulary)
numbers_within vocabulary (w ∷ ws) =
    by_number vocabulary w (λ o. All (λ n. n < length vocabulary) (cons_option o (numbers_of vocabulary ws))) (λ e. numbers_within vocabulary ws)
    (λ i e. All-cons (λ n. n < length vocabulary) i (numbers_of vocabulary ws) (slice_get_within vocabulary i w (number_known vocabulary w i e)) (numbers_within vocabulary ws))

apart_numbers : (vocabulary : List (List ℕ)) (w u : List ℕ) (i j : ℕ) → slice_get vocabulary i ≡ Some w → slice_get vocabulary j ≡ Some u → bytes_eq w u ≡ false → (b : Bool) → eqb i j ≡ b → b ≡ false
apart_numbers vocabulary w u i j at_w at_u differ false e = refl
apart_numbers vocabulary w u i j at_w at_u differ true e =
    let same : i ≡ j = eqb-true i j e in
    let one : Some w ≡ Some u = sym at_w ∙ ap (slice_get vocabulary) same ∙ at_u in
    let equal : w ≡ u = cc in
    absurd (true≢false (sym ((bytes_decides w u).1 equal) ∙ differ))

numbers_apart : (vocabulary : List (List ℕ)) (w : List ℕ) (i : ℕ) (ws : List (List ℕ)) → slice_get vocabulary i ≡ Some w → AllByRecursion (λ y. bytes_eq w y ≡ false) ws → AllByRecursion (λ y. eqb i y ≡ false) (numbers_of vocabulary ws)
numbers_apart vocabulary w i [] at h = tt
numbers_apart vocabulary w i (u ∷ us) at h =
    by_number vocabulary u (λ o. AllByRecursion (λ y. eqb i y ≡ false) (cons_option o (numbers_of vocabulary us))) (λ e. numbers_apart vocabulary w i us at h.1)
    (λ j e. (apart_numbers vocabulary w u i j at (number_known vocabulary u j e) h.0 (eqb i j) refl, numbers_apart vocabulary w i us at h.1))

-- distinct terms have distinct numbers
pub numbers_once : (vocabulary ws : List (List ℕ)) → IsDistinct bytes_eq ws → IsDistinct eqb (numbers_of vocabulary ws)
unfolding IsDistinct
numbers_once vocabulary [] h = tt
numbers_once vocabulary (w ∷ ws) h =
    by_number vocabulary w (λ o. IsDistinct eqb (cons_option o (numbers_of vocabulary ws))) (λ e. numbers_once vocabulary ws h.1)
    (λ i e. IsDistinct-cons eqb i (numbers_of vocabulary ws) (numbers_apart vocabulary w i ws (number_known vocabulary w i e) h.0) (numbers_once vocabulary ws h.1))

pub number_is_some : (ws : List (List ℕ)) (w : List ℕ) → is_some (number_of ws w) ≡ list_any (bytes_eq w) ws
number_is_some ws w = by_number ws w (λ o. is_some o ≡ list_any (bytes_eq w) ws) (λ e. sym (number_unknown ws w e)) (λ i e. sym (number_member ws w i e))
