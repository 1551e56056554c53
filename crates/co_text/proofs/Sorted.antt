-- A strictly sorted list is known by its members.
use Rattle.std.proofs.Common.{◌≡◌, ◌≤◌, ◌⊎◌, inl, inr, ℕ, zero, suc, Bool, true, false, ◌||◌, List, [], ◌∷◌, ◌++◌, length, take, refl, sym, ap, ◌∙◌, subst, arith}
use Rattle.std.specs.Prelude.{All}
use Rattle.std.specs.List.{list_any, AllByRecursion, IsDistinct}
use Rattle.std.specs.List.Sorted.{IsStrictlySortedBy}
use Rattle.std.specs.Ordering.{eq_by_cmp, ordering_reverse}
use Rattle.std.specs.Cmp.{IsTotalOrder, Equal-is, tied_itself}
use Rattle.std.specs.declared.cmp.Ordering.{Ordering}
use Rattle.std.specs.declared.cmp.Ordering.TheVariants.{Less, Equal, Greater}
use Rattle.std.proofs.lemmas.Map.Keys.{sorted_head, sorted_tail}
use Rattle.std.proofs.lemmas.Bool.{or_right}
use Rattle.std.proofs.lemmas.List.Elements.{All-nil, All-cons, All-head, All-tail}
use Rattle.std.proofs.lemmas.List.Folds.{list_any-append}
use mathlib.Core.Bool.{true≢false}

by_order : {A : Type 0} (r : Ordering) → {s : Ordering} → s ≡ r → (s ≡ Less → A) → (s ≡ Equal → A) → (s ≡ Greater → A) → A
by_order Less is l e g = l is
by_order Equal is l e g = e is
by_order Greater is l e g = g is

module _ {K : Type 0} (R : K → K → Ordering) (o : IsTotalOrder R) where
  -- x is not among those above it
  pub none_above : (x : K) (ys : List K) → AllByRecursion (λ y. R x y ≡ Less) ys → list_any (eq_by_cmp R x) ys ≡ false
  none_above x [] all = refl
  none_above x (y ∷ ys) all = rw all.0 (none_above x ys all.1)

  pub above_more : (x y : K) (ys : List K) → R x y ≡ Less → AllByRecursion (λ z. R y z ≡ Less) ys → AllByRecursion (λ z. R x z ≡ Less) ys
  above_more x y [] less all = tt
  above_more x y (z ∷ zs) less all = (o.trans x y z less all.0, above_more x y zs less all.1)

  same_tail : (x : K) (xs ys : List K) → ((q : K) → (eq_by_cmp R q x || list_any (eq_by_cmp R q) xs) ≡ (eq_by_cmp R q x || list_any (eq_by_cmp R q) ys))
      → AllByRecursion (λ y. R x y ≡ Less) xs → AllByRecursion (λ y. R x y ≡ Less) ys
      → ((q z : K) → R q z ≡ Equal → q ≡ z)
      → (q : K) (b : Bool) → eq_by_cmp R q x ≡ b → list_any (eq_by_cmp R q) xs ≡ list_any (eq_by_cmp R q) ys
  same_tail x xs ys members left right anti q true is =
      let same : q ≡ x = anti q x ((Equal-is (R q x)).0 is) in
      ap (λ u. list_any (eq_by_cmp R u) xs) same ∙ none_above x xs left ∙ sym (ap (λ u. list_any (eq_by_cmp R u) ys) same ∙ none_above x ys right)
  same_tail x xs ys members left right anti q false is = rw is at (members q)

  -- x is among those that begin with x
  pub here : (x : K) (xs : List K) → list_any (eq_by_cmp R x) (x ∷ xs) ≡ true
  here x xs = rw (tied_itself o x) refl

  -- x is not among those that begin above it
  missing : (x y : K) (ys : List K) → R x y ≡ Less → AllByRecursion (λ z. R y z ≡ Less) ys → list_any (eq_by_cmp R x) (y ∷ ys) ≡ false
  missing x y ys less all = none_above x (y ∷ ys) (less, above_more x y ys less all)

  -- two strictly sorted lists with the same members are one list
  pub sorted_same : ((x y : K) → R x y ≡ Equal → x ≡ y) → (xs ys : List K) → IsStrictlySortedBy R xs → IsStrictlySortedBy R ys
      → ((q : K) → list_any (eq_by_cmp R q) xs ≡ list_any (eq_by_cmp R q) ys) → xs ≡ ys
  sorted_same anti [] [] left right members = refl
  sorted_same anti [] (y ∷ ys) left right members = absurd (true≢false (sym (members y ∙ here y ys)))
  sorted_same anti (x ∷ xs) [] left right members = absurd (true≢false (sym (here x xs) ∙ members x))
  sorted_same anti (x ∷ xs) (y ∷ ys) left right members =
      by_order (R x y) refl
      (λ less. absurd (true≢false (sym (here x xs) ∙ members x ∙ missing x y ys less (sorted_head R y ys right))))
      (λ equal.
      let same : x ≡ y = anti x y equal in
      let right' : IsStrictlySortedBy R (x ∷ ys) = subst (λ u. IsStrictlySortedBy R (u ∷ ys)) (sym same) right in
      let members' : (q : K) → (eq_by_cmp R q x || list_any (eq_by_cmp R q) xs) ≡ (eq_by_cmp R q x || list_any (eq_by_cmp R q) ys) =
      λ q. members q ∙ ap (λ u. eq_by_cmp R q u || list_any (eq_by_cmp R q) ys) (sym same) in
      ap (λ u. u ∷ xs) same ∙ ap (λ us. y ∷ us) (sorted_same anti xs ys (sorted_tail R x xs left) (sorted_tail R y ys right)
      (λ q. same_tail x xs ys members' (sorted_head R x xs left) (sorted_head R x ys right') anti q (eq_by_cmp R q x) refl)))
      (λ greater. absurd (true≢false (sym (here y ys) ∙ sym (members y) ∙ missing y x xs (o.antisymm y x ∙ ap ordering_reverse greater) (sorted_head R x xs left))))

  -- what is behind x is behind those that x isn't
  tail_at : ((x y : K) → R x y ≡ Equal → x ≡ y) → (q x : K) (xs ys : List K) → AllByRecursion (λ y. R x y ≡ Less) xs → list_any (eq_by_cmp R q) xs ≡ true
      → (b : Bool) → eq_by_cmp R q x ≡ b → (b || list_any (eq_by_cmp R q) ys) ≡ true → list_any (eq_by_cmp R q) ys ≡ true
  tail_at exact q x xs ys above in_xs true is either =
      let same : q ≡ x = exact q x ((Equal-is (R q x)).0 is) in
      absurd (true≢false (sym in_xs ∙ ap (λ u. list_any (eq_by_cmp R u) xs) same ∙ none_above x xs above))
  tail_at exact q x xs ys above in_xs false is either = either

  -- a strictly sorted list whose members are in another is no longer; and where it is as long, it is the other
  pub sorted_within : ((x y : K) → R x y ≡ Equal → x ≡ y) → (xs ys : List K) → IsStrictlySortedBy R xs → IsStrictlySortedBy R ys
      → ((q : K) → list_any (eq_by_cmp R q) xs ≡ true → list_any (eq_by_cmp R q) ys ≡ true)
      → (length xs ≤ length ys) × (length xs ≡ length ys → xs ≡ ys)
  sorted_within exact [] [] left right all = (omega arith, λ e. refl)
  sorted_within exact [] (y ∷ ys) left right all = (omega arith, λ e. absurd (omega (arith, e)))
  sorted_within exact (x ∷ xs) [] left right all = absurd (true≢false (sym (all x (here x xs))))
  sorted_within exact (x ∷ xs) (y ∷ ys) left right all =
      by_order (R x y) refl
      (λ less. absurd (true≢false (sym (all x (here x xs)) ∙ missing x y ys less (sorted_head R y ys right))))
      (λ equal.
      let same : x ≡ y = exact x y equal in
      let rest = sorted_within exact xs ys (sorted_tail R x xs left) (sorted_tail R y ys right)
      (λ q is. tail_at exact q x xs ys (sorted_head R x xs left) is (eq_by_cmp R q x) refl
      (ap (λ u. eq_by_cmp R q u || list_any (eq_by_cmp R q) ys) same ∙ all q (or_right (eq_by_cmp R q x) (list_any (eq_by_cmp R q) xs) is))) in
      (omega (arith, rest.0), λ e. ap (λ u. u ∷ xs) same ∙ ap (λ us. y ∷ us) (rest.1 (omega (arith, e)))))
      (λ greater.
      let less : R y x ≡ Less = o.antisymm y x ∙ ap ordering_reverse greater in
      let rest = sorted_within exact (x ∷ xs) ys left (sorted_tail R y ys right)
      (λ q is. tail_at exact q y (x ∷ xs) ys (less, above_more y x xs less (sorted_head R x xs left)) is (eq_by_cmp R q y) refl (all q is)) in
      (omega (arith, rest.0), λ e. absurd (omega (arith, rest.0, e))))

  -- all of one list are in another, or one isn't
  lacks : ((x y : K) → R x y ≡ Equal → x ≡ y) → (xs ys : List K)
      → ((q : K) → list_any (eq_by_cmp R q) xs ≡ true → list_any (eq_by_cmp R q) ys ≡ true)
      ⊎ ((w : K) × (list_any (eq_by_cmp R w) xs ≡ true) × (list_any (eq_by_cmp R w) ys ≡ false))
  lacks exact [] ys = inl (λ q is. absurd (true≢false (sym is)))
  lacks exact (x ∷ xs) ys = step (lacks exact xs ys) (list_any (eq_by_cmp R x) ys) refl
    where
      at : ((q : K) → list_any (eq_by_cmp R q) xs ≡ true → list_any (eq_by_cmp R q) ys ≡ true) → list_any (eq_by_cmp R x) ys ≡ true
          → (q : K) (b : Bool) → eq_by_cmp R q x ≡ b → (b || list_any (eq_by_cmp R q) xs) ≡ true → list_any (eq_by_cmp R q) ys ≡ true
      at all is q true same either = ap (λ u. list_any (eq_by_cmp R u) ys) (exact q x ((Equal-is (R q x)).0 same)) ∙ is
      at all is q false other either = all q either

      step : (((q : K) → list_any (eq_by_cmp R q) xs ≡ true → list_any (eq_by_cmp R q) ys ≡ true)
          ⊎ ((w : K) × (list_any (eq_by_cmp R w) xs ≡ true) × (list_any (eq_by_cmp R w) ys ≡ false)))
          → (b : Bool) → list_any (eq_by_cmp R x) ys ≡ b
          → ((q : K) → list_any (eq_by_cmp R q) (x ∷ xs) ≡ true → list_any (eq_by_cmp R q) ys ≡ true)
          ⊎ ((w : K) × (list_any (eq_by_cmp R w) (x ∷ xs) ≡ true) × (list_any (eq_by_cmp R w) ys ≡ false))
      step rest false is = inr (x, here x xs, is)
      step (inl all) true is = inl (λ q either. at all is q (eq_by_cmp R q x) refl either)
      step (inr found) true is = inr (found.0, or_right (eq_by_cmp R found.0 x) (list_any (eq_by_cmp R found.0) xs) found.1, found.2)

  one_at : (exact : (x y : K) → R x y ≡ Equal → x ≡ y) (xs ys : List K) → IsStrictlySortedBy R xs → IsStrictlySortedBy R ys → length xs ≡ length ys
      → ((u w : K) → list_any (eq_by_cmp R u) ys ≡ true → list_any (eq_by_cmp R u) xs ≡ false → list_any (eq_by_cmp R w) xs ≡ true → list_any (eq_by_cmp R w) ys ≡ false → ⊥)
      → ((q : K) → list_any (eq_by_cmp R q) xs ≡ true → list_any (eq_by_cmp R q) ys ≡ true)
      ⊎ ((w : K) × (list_any (eq_by_cmp R w) xs ≡ true) × (list_any (eq_by_cmp R w) ys ≡ false))
      → ((q : K) → list_any (eq_by_cmp R q) ys ≡ true → list_any (eq_by_cmp R q) xs ≡ true)
      ⊎ ((w : K) × (list_any (eq_by_cmp R w) ys ≡ true) × (list_any (eq_by_cmp R w) xs ≡ false))
      → xs ≡ ys
  one_at exact xs ys left right long never (inl all) others = (sorted_within exact xs ys left right all).1 long
  one_at exact xs ys left right long never (inr w) (inl all) = sym ((sorted_within exact ys xs right left all).1 (sym long))
  one_at exact xs ys left right long never (inr w) (inr u) = absurd (never u.0 w.0 u.1 u.2 w.1 w.2)

  -- two strictly sorted lists of one length are one, unless each has what the other lacks
  pub one_unless : (exact : (x y : K) → R x y ≡ Equal → x ≡ y) (xs ys : List K) → IsStrictlySortedBy R xs → IsStrictlySortedBy R ys → length xs ≡ length ys
      → ((u w : K) → list_any (eq_by_cmp R u) ys ≡ true → list_any (eq_by_cmp R u) xs ≡ false → list_any (eq_by_cmp R w) xs ≡ true → list_any (eq_by_cmp R w) ys ≡ false → ⊥)
      → xs ≡ ys
  one_unless exact xs ys left right long never = one_at exact xs ys left right long never (lacks exact xs ys) (lacks exact ys xs)

-- fronts of lists
pub all_take : {K : Type 0} (P : K → Type 0) (n : ℕ) (xs : List K) → AllByRecursion P xs → AllByRecursion P (take n xs)
all_take P zero xs all = tt
all_take P (suc n) [] all = tt
all_take P (suc n) (x ∷ xs) all = (all.0, all_take P n xs all.1)

pub distinct_take : {K : Type 0} (e : K → K → Bool) (n : ℕ) (xs : List K) → IsDistinct e xs → IsDistinct e (take n xs)
unfolding IsDistinct
distinct_take e zero xs distinct = tt
distinct_take e (suc n) [] distinct = tt
distinct_take e (suc n) (x ∷ xs) distinct = (all_take (λ y. e x y ≡ false) n xs distinct.0, distinct_take e n xs distinct.1)

pub sorted_take : {K : Type 0} (R : K → K → Ordering) (n : ℕ) (xs : List K) → IsStrictlySortedBy R xs → IsStrictlySortedBy R (take n xs)
unfolding IsStrictlySortedBy
sorted_take R zero xs sorted = tt
sorted_take R (suc n) [] sorted = tt
sorted_take R (suc n) (x ∷ xs) sorted = (all_take (λ y. R x y ≡ Less) n xs sorted.0, sorted_take R n xs sorted.1)

-- the front and the back of a sorted list, whose members are found by a test of equality
module _ {K : Type 0} (R : K → K → Ordering) (E : K → K → Bool) (decides : (x y : K) → E x y ≡ true → x ≡ y) where
  less_at : (x w z : K) (zs : List K) → R x z ≡ Less → (list_any (E w) zs ≡ true → R x w ≡ Less)
      → (b : Bool) → E w z ≡ b → (b || list_any (E w) zs) ≡ true → R x w ≡ Less
  less_at x w z zs less rest true same is = ap (R x) (decides w z same) ∙ less
  less_at x w z zs less rest false other is = rest is

  less_of : (x w : K) (zs : List K) → AllByRecursion (λ z. R x z ≡ Less) zs → list_any (E w) zs ≡ true → R x w ≡ Less
  less_of x w [] all is = absurd (true≢false (sym is))
  less_of x w (z ∷ zs) all is = less_at x w z zs all.0 (less_of x w zs all.1) (E w z) refl is

  -- each of the front stands before a member of the back
  pub front_before : (w : K) (xs ys : List K) → IsStrictlySortedBy R (xs ++ ys) → list_any (E w) ys ≡ true → All (λ x. R x w ≡ Less) xs
  front_before w [] ys sorted in_back = All-nil (λ x. R x w ≡ Less)
  front_before w (x ∷ xs) ys sorted in_back =
      let anywhere : list_any (E w) (xs ++ ys) ≡ true = list_any-append (E w) xs ys ∙ or_right (list_any (E w) xs) (list_any (E w) ys) in_back in
      All-cons (λ z. R z w ≡ Less) x xs (less_of x w (xs ++ ys) (sorted_head R x (xs ++ ys) sorted) anywhere) (front_before w xs ys (sorted_tail R x (xs ++ ys) sorted) in_back)

  at_member : (P : K → Type 0) (v x : K) (xs : List K) → P x → (list_any (E v) xs ≡ true → P v) → (b : Bool) → E v x ≡ b → (b || list_any (E v) xs) ≡ true → P v
  at_member P v x xs here rest true same either = subst P (sym (decides v x same)) here
  at_member P v x xs here rest false other either = rest either

  -- what holds of each holds of a member
  pub all_at : (P : K → Type 0) (v : K) (xs : List K) → All P xs → list_any (E v) xs ≡ true → P v
  all_at P v [] all is = absurd (true≢false (sym is))
  all_at P v (x ∷ xs) all is = at_member P v x xs (All-head P x xs all) (λ there. all_at P v xs (All-tail P x xs all) there) (E v x) refl is
