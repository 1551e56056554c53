-- The run of the elements with a number among elements that ascend by numbers.
use Rattle.std.proofs.Common.{◌≡◌, ℕ, ◌+◌, ◌<◌, ◌≤◌, ◌==◌, Bool, true, false, List, [], ◌∷◌, ◌++◌, length, get_or, take, drop, refl, sym, ap, ◌∙◌, arith, nat_lt, nat_le}
use Rattle.std.specs.Prelude.{All, filter}
use Rattle.std.specs.List.Sorted.{IsPartitionPoint}
use Rattle.std.proofs.lemmas.Bool.{ltb-true, ltb-false, leb-true, leb-false, eq-eqb}
use Rattle.std.proofs.lemmas.List.{take-append-drop, length-take, length-drop, get_or-take, get_or-drop, append-nil}
use Rattle.std.proofs.lemmas.List.Elements.{filter-append, All-head, All-tail}
use Rattle.co_tfidf.proofs.Occurrences.{apart_test}

-- where all pass, or none
filter_all : {X : Type 0} (p : X → Bool) (xs : List X) → All (λ x. p x ≡ true) xs → filter p xs ≡ xs
filter_all p [] all = refl
filter_all p (x ∷ xs) all = rw (All-head (λ y. p y ≡ true) x xs all) (ap (λ l. x ∷ l) (filter_all p xs (All-tail (λ y. p y ≡ true) x xs all)))

filter_none : {X : Type 0} (p : X → Bool) (xs : List X) → All (λ x. p x ≡ false) xs → filter p xs ≡ []
filter_none p [] all = refl
filter_none p (x ∷ xs) all = rw (All-head (λ y. p y ≡ false) x xs all) (filter_none p xs (All-tail (λ y. p y ≡ false) x xs all))

module _ {X : Type 0} (n : X → ℕ) (t : ℕ) (xs : List X) (start end : ℕ)
    (low : IsPartitionPoint (λ y. nat_lt (n y) t ≡ true) (λ y. nat_lt (n y) t ≡ false) xs start)
    (high : IsPartitionPoint (λ y. nat_le (n y) t ≡ true) (λ y. nat_le (n y) t ≡ false) (drop start xs) end) where
  none_before : filter (λ y. n y == t) (take start xs) ≡ []
  none_before = filter_none (λ y. n y == t) (take start xs) (λ k d h.
      let less : k < start = omega (arith, length-take start xs) in
      let below : n (get_or xs k d) < t = ltb-true _ _ (low.0 k d (omega arith) less) in
      rw (get_or-take start xs k d less) (apart_test (n (get_or xs k d)) t (λ same. omega (arith, same, below))))

  all_within : filter (λ y. n y == t) (take end (drop start xs)) ≡ take end (drop start xs)
  all_within = filter_all (λ y. n y == t) (take end (drop start xs)) (λ k d h.
      let less : k < end = omega (arith, length-take end (drop start xs)) in
      let within : start + k < length xs = omega (arith, length-take end (drop start xs), length-drop start xs) in
      let upto : n (get_or (drop start xs) k d) ≤ t = leb-true _ _ (high.0 k d (omega arith) less) in
      let from : t ≤ n (get_or xs (start + k) d) = ltb-false _ _ (low.1 (start + k) d (omega arith) within) in
      rw (get_or-take end (drop start xs) k d less) (eq-eqb _ t (omega (arith, ap n (get_or-drop start xs k d), upto, from))))

  none_after : filter (λ y. n y == t) (drop end (drop start xs)) ≡ []
  none_after = filter_none (λ y. n y == t) (drop end (drop start xs)) (λ k d h.
      let within : end + k < length (drop start xs) = omega (arith, length-drop end (drop start xs)) in
      let above : t < n (get_or (drop start xs) (end + k) d) = leb-false _ _ (high.1 (end + k) d (omega arith) within) in
      rw (get_or-drop end (drop start xs) k d) (apart_test (n (get_or (drop start xs) (end + k) d)) t (λ same. omega (arith, same, above))))

  -- the run of the elements at t, between those below and those above
  pub run_at : take end (drop start xs) ≡ filter (λ y. n y == t) xs
  run_at =
      sym (ap (filter (λ y. n y == t)) (sym (take-append-drop end (drop start xs))) ∙ filter-append (λ y. n y == t) (take end (drop start xs)) (drop end (drop start xs)) ∙ rw (all_within, none_after) (append-nil (take end (drop start xs))))
      ∙ ap (λ l. l ++ filter (λ y. n y == t) (drop start xs)) (sym none_before)
      ∙ sym (filter-append (λ y. n y == t) (take start xs) (drop start xs))
      ∙ ap (filter (λ y. n y == t)) (take-append-drop start xs)
