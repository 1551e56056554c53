-- What `insert_key` does to a strictly sorted list.
use Rattle.std.proofs.Common.{◌≡◌, ◌≤◌, ◌+◌, ℕ, zero, suc, Bool, true, false, ◌||◌, List, [], ◌∷◌, length, take, refl, sym, ap, ◌∙◌, arith}
use Rattle.std.specs.Prelude.{All, fold}
use Rattle.std.specs.List.{list_any, AllByRecursion, IsDistinct}
use Rattle.std.specs.List.Sorted.{IsStrictlySortedBy}
use Rattle.std.specs.BTreeSet.{insert_key}
use Rattle.std.specs.Ordering.{eq_by_cmp, is_eq, ordering_reverse, match_ordering}
use Rattle.std.specs.Cmp.{IsTotalOrder, alike_right}
use Rattle.std.specs.declared.cmp.Ordering.{Ordering}
use Rattle.std.specs.declared.cmp.Ordering.TheVariants.{Less, Equal, Greater}
use Rattle.std.proofs.lemmas.Map.Keys.{sorted_tail}
use Rattle.std.proofs.lemmas.Map.Views.{All-insert_key}
use Rattle.std.proofs.lemmas.List.Elements.{All-nil, All-head, All-tail}
use Rattle.std.proofs.lemmas.Cmp.{eq_by_cmp_equiv}
use mathlib.Core.Bool.{true≢false}
use Rattle.co_text.proofs.Sorted.{above_more}
use Rattle.co_text.specs.Order.{in_order}

turn : (a b c : Bool) → (a || (b || c)) ≡ ((b || a) || c)
turn true true c = refl
turn true false c = refl
turn false true c = refl
turn false false c = refl

or_false : (a : Bool) → (a || false) ≡ a
or_false true = refl
or_false false = refl

twice : (a b : Bool) → (a || b) ≡ (a || (a || b))
twice true b = refl
twice false b = refl

swap : (a b c : Bool) → (a || (b || c)) ≡ (b || (a || c))
swap true true c = refl
swap true false c = refl
swap false true c = refl
swap false false c = refl

module _ {K : Type 0} (R : K → K → Ordering) (o : IsTotalOrder R) where
  put_above_at : (y k x : K) (xs : List K) → AllByRecursion (λ z. R y z ≡ Less) (x ∷ xs) → R y k ≡ Less
      → AllByRecursion (λ z. R y z ≡ Less) (insert_key R xs k)
      → (r : Ordering) → AllByRecursion (λ z. R y z ≡ Less) (match_ordering r (k ∷ x ∷ xs) (x ∷ xs) (x ∷ insert_key R xs k))
  put_above_at y k x xs all less rest Less = (less, all)
  put_above_at y k x xs all less rest Equal = all
  put_above_at y k x xs all less rest Greater = (all.0, rest)

  put_above : (y k : K) (xs : List K) → AllByRecursion (λ z. R y z ≡ Less) xs → R y k ≡ Less → AllByRecursion (λ z. R y z ≡ Less) (insert_key R xs k)
  put_above y k [] all less = (less, tt)
  put_above y k (x ∷ xs) all less = put_above_at y k x xs all less (put_above y k xs all.1 less) (R k x)

  sorted_put_at : (k x : K) (xs : List K) → IsStrictlySortedBy R (x ∷ xs) → IsStrictlySortedBy R (insert_key R xs k)
      → (r : Ordering) → R k x ≡ r → IsStrictlySortedBy R (match_ordering r (k ∷ x ∷ xs) (x ∷ xs) (x ∷ insert_key R xs k))
  unfolding IsStrictlySortedBy
  sorted_put_at k x xs sorted rest Less is = ((is, above_more R o k x xs is sorted.0), sorted)
  sorted_put_at k x xs sorted rest Equal is = sorted
  sorted_put_at k x xs sorted rest Greater is = (put_above x k xs sorted.0 (o.antisymm x k ∙ ap ordering_reverse is), rest)

  -- a key put at its place keeps the list sorted
  pub sorted_put : (k : K) (xs : List K) → IsStrictlySortedBy R xs → IsStrictlySortedBy R (insert_key R xs k)
  unfolding IsStrictlySortedBy
  sorted_put k [] sorted = (tt, tt)
  sorted_put k (x ∷ xs) sorted = sorted_put_at k x xs sorted (sorted_put k xs (sorted_tail R x xs sorted)) (R k x) refl

  members_put_at : (q k x : K) (xs : List K) → list_any (eq_by_cmp R q) (insert_key R xs k) ≡ (eq_by_cmp R q k || list_any (eq_by_cmp R q) xs)
      → (r : Ordering) → R k x ≡ r → list_any (eq_by_cmp R q) (match_ordering r (k ∷ x ∷ xs) (x ∷ xs) (x ∷ insert_key R xs k)) ≡ (eq_by_cmp R q k || (eq_by_cmp R q x || list_any (eq_by_cmp R q) xs))
  members_put_at q k x xs rest Less is = refl
  members_put_at q k x xs rest Equal is = rw (ap is_eq (alike_right o k x q is)) (twice (eq_by_cmp R q x) _)
  members_put_at q k x xs rest Greater is = rw rest (swap (eq_by_cmp R q x) (eq_by_cmp R q k) _)

  -- and adds it to the members
  pub members_put : (q k : K) (xs : List K) → list_any (eq_by_cmp R q) (insert_key R xs k) ≡ (eq_by_cmp R q k || list_any (eq_by_cmp R q) xs)
  members_put q k [] = refl
  members_put q k (x ∷ xs) = members_put_at q k x xs (members_put q k xs) (R k x) refl

  in_order_from : (acc ks : List K) → IsStrictlySortedBy R acc → IsStrictlySortedBy R (fold (insert_key R) acc ks)
  in_order_from acc [] sorted = sorted
  in_order_from acc (k ∷ ks) sorted = in_order_from (insert_key R acc k) ks (sorted_put k acc sorted)

  pub in_order-sorted : (ks : List K) → IsStrictlySortedBy R (in_order R ks)
  unfolding IsStrictlySortedBy
  in_order-sorted ks = in_order_from [] ks tt

  members_from : (q : K) (acc ks : List K) → list_any (eq_by_cmp R q) (fold (insert_key R) acc ks) ≡ (list_any (eq_by_cmp R q) ks || list_any (eq_by_cmp R q) acc)
  members_from q acc [] = refl
  members_from q acc (k ∷ ks) = members_from q (insert_key R acc k) ks ∙ rw (members_put q k acc) (turn (list_any (eq_by_cmp R q) ks) (eq_by_cmp R q k) _)

  pub in_order-members : (q : K) (ks : List K) → list_any (eq_by_cmp R q) (in_order R ks) ≡ list_any (eq_by_cmp R q) ks
  in_order-members q ks = members_from q [] ks ∙ or_false _

  new_at : (k x : K) (xs : List K) → (list_any (eq_by_cmp R k) xs ≡ false → length (insert_key R xs k) ≡ length xs + 1) → (r : Ordering)
      → (is_eq r || list_any (eq_by_cmp R k) xs) ≡ false → length (match_ordering r (k ∷ x ∷ xs) (x ∷ xs) (x ∷ insert_key R xs k)) ≡ length (x ∷ xs) + 1
  new_at k x xs rest Less new = omega arith
  new_at k x xs rest Equal new = absurd (true≢false new)
  new_at k x xs rest Greater new = omega (arith, rest new)

  length-put : (k : K) (xs : List K) → list_any (eq_by_cmp R k) xs ≡ false → length (insert_key R xs k) ≡ length xs + 1
  length-put k [] new = omega arith
  length-put k (x ∷ xs) new = new_at k x xs (length-put k xs) (R k x) new

  still_new : (x : K) (acc xs : List K) → AllByRecursion (λ y. eq_by_cmp R x y ≡ false) xs → AllByRecursion (λ y. list_any (eq_by_cmp R y) acc ≡ false) xs
      → AllByRecursion (λ y. list_any (eq_by_cmp R y) (insert_key R acc x) ≡ false) xs
  still_new x acc [] apart new = tt
  still_new x acc (y ∷ ys) apart new =
      (members_put y x acc ∙ rw ((eq_by_cmp_equiv o).symm y x, apart.0, new.0) refl, still_new x acc ys apart.1 new.1)

  length_from : (acc xs : List K) → AllByRecursion (λ y. list_any (eq_by_cmp R y) acc ≡ false) xs → IsDistinct (eq_by_cmp R) xs → length (fold (insert_key R) acc xs) ≡ length acc + length xs
  unfolding IsDistinct
  length_from acc [] new distinct = omega arith
  length_from acc (x ∷ xs) new distinct =
      omega (arith, length_from (insert_key R acc x) xs (still_new x acc xs distinct.0 new.1) distinct.1, length-put x acc new.0)

  none_in_nothing : (xs : List K) → AllByRecursion (λ y. list_any (eq_by_cmp R y) [] ≡ false) xs
  none_in_nothing [] = tt
  none_in_nothing (x ∷ xs) = (refl, none_in_nothing xs)

  -- a list in which each stands once is as long in order
  pub length-in_order : (xs : List K) → IsDistinct (eq_by_cmp R) xs → length (in_order R xs) ≡ length xs
  length-in_order xs distinct = omega (arith, length_from [] xs (none_in_nothing xs) distinct)

-- the front of a front
front_itself : {K : Type 0} (n : ℕ) (xs : List K) → take n (take n xs) ≡ take n xs
front_itself zero xs = refl
front_itself (suc n) [] = refl
front_itself (suc n) (x ∷ xs) = ap (λ l. x ∷ l) (front_itself n xs)

front_step : {K : Type 0} (n : ℕ) (xs : List K) → take n (take (suc n) xs) ≡ take n xs
front_step zero xs = refl
front_step (suc n) [] = refl
front_step (suc n) (x ∷ xs) = ap (λ l. x ∷ l) (front_step n xs)

front_more : {K : Type 0} (n : ℕ) (x : K) (xs : List K) → take n (x ∷ take n xs) ≡ take n (x ∷ xs)
front_more zero x xs = refl
front_more (suc n) x xs = ap (λ l. x ∷ l) (front_step n xs)

module _ {K : Type 0} (R : K → K → Ordering) where
  all_from : (P : K → Type 0) (acc xs : List K) → All P acc → All P xs → All P (fold (insert_key R) acc xs)
  all_from P acc [] so_far all = so_far
  all_from P acc (x ∷ xs) so_far all = all_from P (insert_key R acc x) xs (All-insert_key R x P acc so_far (All-head P x xs all)) (All-tail P x xs all)

  -- what holds of each holds of each in order
  pub in_order-all : (P : K → Type 0) (xs : List K) → All P xs → All P (in_order R xs)
  in_order-all P xs all = all_from P [] xs (All-nil P) all

  at_most_at : (k x : K) (xs : List K) → length (insert_key R xs k) ≤ length xs + 1 → (r : Ordering) → length (match_ordering r (k ∷ x ∷ xs) (x ∷ xs) (x ∷ insert_key R xs k)) ≤ length (x ∷ xs) + 1
  at_most_at k x xs rest Less = omega arith
  at_most_at k x xs rest Equal = omega arith
  at_most_at k x xs rest Greater = omega (arith, rest)

  pub length-insert_key : (k : K) (xs : List K) → length (insert_key R xs k) ≤ length xs + 1
  length-insert_key k [] = omega arith
  length-insert_key k (x ∷ xs) = at_most_at k x xs (length-insert_key k xs) (R k x)

  at_most_from : (acc xs : List K) → length (fold (insert_key R) acc xs) ≤ length acc + length xs
  at_most_from acc [] = omega arith
  at_most_from acc (x ∷ xs) = omega (arith, at_most_from (insert_key R acc x) xs, length-insert_key x acc)

  pub length-in_order-le : (xs : List K) → length (in_order R xs) ≤ length xs
  length-in_order-le xs = omega (arith, at_most_from [] xs)

  front_at : (n : ℕ) (k x : K) (xs : List K) → take n (insert_key R (take n xs) k) ≡ take n (insert_key R xs k) → take n (x ∷ take n xs) ≡ take n (x ∷ xs)
      → (r : Ordering) → take (suc n) (match_ordering r (k ∷ x ∷ take n xs) (x ∷ take n xs) (x ∷ insert_key R (take n xs) k))
      ≡ take (suc n) (match_ordering r (k ∷ x ∷ xs) (x ∷ xs) (x ∷ insert_key R xs k))
  front_at n k x xs rest one Less = ap (λ l. k ∷ l) one
  front_at n k x xs rest one Equal = ap (λ l. x ∷ l) (front_itself n xs)
  front_at n k x xs rest one Greater = ap (λ l. x ∷ l) rest

  -- of the front alone a key put at its place makes the same front
  pub front-insert_key : (n : ℕ) (k : K) (xs : List K) → take n (insert_key R (take n xs) k) ≡ take n (insert_key R xs k)
  front-insert_key zero k xs = refl
  front-insert_key (suc n) k [] = refl
  front-insert_key (suc n) k (x ∷ xs) = front_at n k x xs (front-insert_key n k xs) (front_more n x xs) (R k x)

  pub front_fold : (n : ℕ) (acc xs : List K) → take n (fold (insert_key R) (take n acc) xs) ≡ take n (fold (insert_key R) acc xs)
  front_fold n acc [] = front_itself n acc
  front_fold n acc (x ∷ xs) =
      sym (front_fold n (insert_key R (take n acc) x) xs)
      ∙ ap (λ a. take n (fold (insert_key R) a xs)) (front-insert_key n x acc)
      ∙ front_fold n (insert_key R acc x) xs
