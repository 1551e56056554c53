-- The order of packing from a sort.
use Rattle.std.proofs.Common.{◌≡◌, ◌≢◌, ◌+◌, ◌-◌, ◌<◌, ◌≤◌, ◌⊎◌, ℕ, zero, suc, false, cond, List, [], ◌∷◌, ◌++◌, length, map, get_or, set, eqb, refl, sym, ap, ◌∙◌, subst, inl, inr, ⊎_elim, arith, get_or-set_other, get_or-set_same}
use Rattle.std.specs.List.{All, range_with_len, IsDistinct, Contains}
use Rattle.std.specs.List.Sorted.{IsPermutation, IsSorted}
use Rattle.std.specs.Ordering.{nat_cmp, ordering_then, is_lt}
use Rattle.std.specs.declared.cmp.Ordering.TheVariants.{Less, Equal, Greater}
use Rattle.std.specs.declared.cmp.Reverse.{Reverse}
use Rattle.std.proofs.lemmas.Bool.{cases_lt, cases_order, lt-ltb, eqb-false, true≢false}
use Rattle.std.proofs.lemmas.Cmp.{nat_eq_equiv, nat_cmp_total, tied_itself}
use Rattle.std.proofs.lemmas.List.{get_or_default, get_or-map, length-map}
use Rattle.std.proofs.lemmas.List.FromFn.{length-range_with_len, get_or-range_with_len, map-range_with_len_more}
use Rattle.std.proofs.lemmas.List.Sorted.{IsPermutation-map, All-permutation, length_permutation, Contains-permutation}
use Rattle.std.proofs.lemmas.Map.Keys.{IsDistinct-from_apart, IsDistinct-IsPermutation, apart_from_distinct}
use Rattle.co_pack.specs.Packing.{IsEarlier, key_cmp, no_place}
use Rattle.co_pack.specs.declared.packing.Place.{Place}
use Rattle.co_pack.proofs.Placing.{apart_tests, by_eq}

-- the length of a document with its number
unfoldable pub key_of : List ℕ → ℕ → Reverse ℕ × ℕ
key_of lengths d = (record { 0 = get_or lengths d 0 }, d)

-- a does not come after b
abbrev NotAfter : Reverse ℕ × ℕ → Reverse ℕ × ℕ → Type 0
NotAfter a b = (b.0.0 < a.0.0) ⊎ ((a.0.0 ≡ b.0.0) × (a.1 ≤ b.1))

less_cmp : (x y : ℕ) → x < y → nat_cmp x y ≡ Less
less_cmp x y less = ap (λ t. cond t Less (cond (eqb x y) Equal Greater)) (lt-ltb x y less)

not_less : (x y : ℕ) → is_lt (nat_cmp x y) ≡ false → y ≤ x
not_less x y isnt = ⊎_elim (λ (less : x < y). absurd (true≢false (sym (ap is_lt (less_cmp x y less)) ∙ isnt))) (λ (h : y ≤ x). h) (cases_lt x y)

plainly : (x y i j : ℕ) → is_lt (ordering_then (nat_cmp x y) (nat_cmp j i)) ≡ false → (y < x) ⊎ ((x ≡ y) × (i ≤ j))
plainly x y i j isnt = elim (cases_order x y) [
  | inl same ↦ inr (same, not_less j i (sym (ap (λ o. is_lt (ordering_then o (nat_cmp j i))) (ap (nat_cmp x) (sym same) ∙ tied_itself nat_cmp_total x)) ∙ isnt))
  | inr (inl less) ↦ absurd (true≢false (sym (ap (λ o. is_lt (ordering_then o (nat_cmp j i))) (less_cmp x y less)) ∙ isnt))
  | inr (inr more) ↦ inl more
]

far_more : (a b c : Reverse ℕ × ℕ) → NotAfter a b → NotAfter b c → NotAfter a c
far_more a b c one two = elim one [
  | inl less ↦ elim two [ inl less' ↦ inl (omega arith) | inr same' ↦ inl (omega (arith, same'.0)) ]
  | inr same ↦ elim two [ inl less' ↦ inl (omega (arith, same.0)) | inr same' ↦ inr (same.0 ∙ same'.0, omega (arith, same.1, same'.1)) ]
]

key₀ : Reverse ℕ × ℕ
key₀ = (record { 0 = 0 }, 0)

far : (keys : List (Reverse ℕ × ℕ)) → IsSorted key_cmp keys → (s d : ℕ) → s + suc d < length keys → NotAfter (get_or keys s key₀) (get_or keys (s + suc d) key₀)
far keys sorted s zero below =
    let near : NotAfter (get_or keys s key₀) (get_or keys (s + 1) key₀) = plainly _ _ _ _ (sorted s key₀ (omega arith) (omega arith)) in near
far keys sorted s (suc d) below =
    let near : NotAfter (get_or keys (s + suc d) key₀) (get_or keys (s + suc d + 1) key₀) = plainly _ _ _ _ (sorted (s + suc d) key₀ (omega arith) (omega arith)) in
    let e : s + suc d + 1 ≡ s + suc (suc d) = omega arith in
    far_more (get_or keys s key₀) (get_or keys (s + suc d) key₀) (get_or keys (s + suc (suc d)) key₀) (far keys sorted s d (omega arith))
    (subst (λ k. NotAfter (get_or keys (s + suc d) key₀) (get_or keys k key₀)) e near)

range_distinct : (n : ℕ) → IsDistinct eqb (range_with_len 0 n)
range_distinct n = IsDistinct-from_apart eqb (range_with_len 0 n) (λ i j d below in_j.
    let long : length (range_with_len 0 n) ≡ n = length-range_with_len 0 n in
    rw (get_or-range_with_len 0 n i d (omega arith), get_or-range_with_len 0 n j d (omega arith)) (apart_tests (0 + i) (0 + j) (omega arith)))

-- an order of the numbers below n
module _ (n : ℕ) (order : List ℕ) (permutes : IsPermutation (range_with_len 0 n) order) where
  pub order_long : length order ≡ n
  order_long = length_permutation (range_with_len 0 n) order permutes ∙ length-range_with_len 0 n

  pub order_below : All (λ d. d < n) order
  order_below = All-permutation (λ d. d < n) (range_with_len 0 n) order permutes (λ k d below.
      let long : length (range_with_len 0 n) ≡ n = length-range_with_len 0 n in rw (get_or-range_with_len 0 n k d (omega arith)) (omega arith))

  pub order_apart : (s t : ℕ) → s < t → t < length order → get_or order s 0 ≢ get_or order t 0
  order_apart s t below in_t = eqb-false _ _ (apart_from_distinct eqb order s t 0 (IsDistinct-IsPermutation eqb nat_eq_equiv.symm (range_with_len 0 n) order permutes (range_distinct n)) below in_t)

  -- each number has its place in the order
  pub order_has : (i : ℕ) → i < n → (s : ℕ) × (s < length order) × (get_or order s 0 ≡ i)
  order_has i below =
      let long : length (range_with_len 0 n) ≡ n = length-range_with_len 0 n in
      let in_range : Contains (range_with_len 0 n) i = (i, omega arith, get_or-range_with_len 0 n i i below ∙ (let e : 0 + i ≡ i = omega arith in e)) in
      let has : Contains order i = Contains-permutation (range_with_len 0 n) order i permutes in_range in
      (has.0, has.1, get_or_default order has.0 0 i has.1 ∙ has.2)

numbers_back : (lengths xs : List ℕ) → map (λ (k : Reverse ℕ × ℕ). k.1) (map (key_of lengths) xs) ≡ xs
unfolding key_of
numbers_back lengths [] = refl
numbers_back lengths (x ∷ xs) = ap (λ ys. x ∷ ys) (numbers_back lengths xs)

pub keys_permute : (lengths : List ℕ) (n : ℕ) (keys keys' : List (Reverse ℕ × ℕ)) → keys ≡ map (key_of lengths) (range_with_len 0 n) → IsPermutation keys keys'
    → IsPermutation (range_with_len 0 n) (map (λ (k : Reverse ℕ × ℕ). k.1) keys')
keys_permute lengths n keys keys' is moved =
    subst (λ xs. IsPermutation xs (map (λ (k : Reverse ℕ × ℕ). k.1) keys')) (ap (map (λ (k : Reverse ℕ × ℕ). k.1)) is ∙ numbers_back lengths (range_with_len 0 n))
    (IsPermutation-map (λ (k : Reverse ℕ × ℕ). k.1) keys keys' moved)

pub keys_more : (lengths : List ℕ) (n : ℕ) (keys : List (Reverse ℕ × ℕ)) (x : ℕ) → keys ≡ map (key_of lengths) (range_with_len 0 n) → x ≡ get_or lengths n 0
    → keys ++ (record { 0 = x }, n) ∷ [] ≡ map (key_of lengths) (range_with_len 0 (n + 1))
unfolding key_of
keys_more lengths n keys x is x_is =
    ap (λ ks. ks ++ (record { 0 = x }, n) ∷ []) is ∙ ap (λ y. map (key_of lengths) (range_with_len 0 n) ++ (record { 0 = y }, n) ∷ []) x_is
    ∙ sym (map-range_with_len_more (key_of lengths) 0 n n (omega arith))

pub keys_long : (lengths : List ℕ) (n : ℕ) → All (λ k. k.0.0 ≡ get_or lengths k.1 0) (map (key_of lengths) (range_with_len 0 n))
unfolding key_of
keys_long lengths n k d below =
    let long : length (map (key_of lengths) (range_with_len 0 n)) ≡ length (range_with_len 0 n) = length-map (range_with_len 0 n) (key_of lengths) in
    rw (get_or-map (key_of lengths) (range_with_len 0 n) k 0 d (omega arith)) refl

pub order_from_keys : (lengths : List ℕ) (keys : List (Reverse ℕ × ℕ)) → IsSorted key_cmp keys → All (λ k. k.0.0 ≡ get_or lengths k.1 0) keys
    → IsPermutation (range_with_len 0 (length lengths)) (map (λ (k : Reverse ℕ × ℕ). k.1) keys)
    → (s t : ℕ) → s < t → t < length (map (λ (k : Reverse ℕ × ℕ). k.1) keys) → IsEarlier lengths (get_or (map (λ (k : Reverse ℕ × ℕ). k.1) keys) s 0) (get_or (map (λ (k : Reverse ℕ × ℕ). k.1) keys) t 0)
order_from_keys lengths keys sorted long permutes s t below in_t =
    let size : length (map (λ (k : Reverse ℕ × ℕ). k.1) keys) ≡ length keys = length-map keys (λ (k : Reverse ℕ × ℕ). k.1) in
    let e : s + suc (t - s - 1) ≡ t = omega arith in
    let rel : NotAfter (get_or keys s key₀) (get_or keys t key₀) = subst (λ k. NotAfter (get_or keys s key₀) (get_or keys k key₀)) e (far keys sorted s (t - s - 1) (omega arith)) in
    let read_s : get_or (map (λ (k : Reverse ℕ × ℕ). k.1) keys) s 0 ≡ (get_or keys s key₀).1 = get_or-map (λ (k : Reverse ℕ × ℕ). k.1) keys s key₀ 0 (omega arith) in
    let read_t : get_or (map (λ (k : Reverse ℕ × ℕ). k.1) keys) t 0 ≡ (get_or keys t key₀).1 = get_or-map (λ (k : Reverse ℕ × ℕ). k.1) keys t key₀ 0 (omega arith) in
    let apart : get_or (map (λ (k : Reverse ℕ × ℕ). k.1) keys) s 0 ≢ get_or (map (λ (k : Reverse ℕ × ℕ). k.1) keys) t 0 = order_apart (length lengths) (map (λ (k : Reverse ℕ × ℕ). k.1) keys) permutes s t below in_t in
    let long_s : (get_or keys s key₀).0.0 ≡ get_or lengths (get_or keys s key₀).1 0 = long s key₀ (omega arith) in
    let long_t : (get_or keys t key₀).0.0 ≡ get_or lengths (get_or keys t key₀).1 0 = long t key₀ (omega arith) in
    rw (read_s, read_t) (elim rel [
      | inl less ↦ inl (omega (arith, long_s, long_t))
      | inr same ↦ inr (sym long_s ∙ same.0 ∙ long_t, omega (arith, same.1, read_s, read_t, apart))
    ])

pub keys_long' : (lengths : List ℕ) (n : ℕ) (keys keys' : List (Reverse ℕ × ℕ)) → keys ≡ map (key_of lengths) (range_with_len 0 n) → IsPermutation keys keys'
    → All (λ k. k.0.0 ≡ get_or lengths k.1 0) keys'
keys_long' lengths n keys keys' is moved =
    All-permutation (λ (k : Reverse ℕ × ℕ). k.0.0 ≡ get_or lengths k.1 0) keys keys' moved
    (subst (λ ks. All (λ (k : Reverse ℕ × ℕ). k.0.0 ≡ get_or lengths k.1 0) ks) (sym is) (keys_long lengths n))

pub scattered : (n : ℕ) (order : List ℕ) (permutes : IsPermutation (range_with_len 0 n) order) (placed places : List Place) (s : ℕ) → length places ≡ length order → s < length order
    → ((t : ℕ) → t < s → get_or places (get_or order t 0) no_place ≡ get_or placed t no_place)
    → (t : ℕ) → t < s + 1 → get_or (set places (get_or order s 0) (get_or placed s no_place)) (get_or order t 0) no_place ≡ get_or placed t no_place
scattered n order permutes placed places s size in_order before t below =
    let in_places : get_or order s 0 < length places = omega (arith, order_below n order permutes s 0 in_order, order_long n order permutes) in
    by_eq t s
    (λ here. rw (here, get_or-set_same places (get_or order s 0) (get_or placed s no_place) no_place in_places) refl)
    (λ other. rw (get_or-set_other places (get_or order s 0) (get_or order t 0) (get_or placed s no_place) no_place (order_apart n order permutes t s (omega arith) in_order)) (before t (omega arith)))
