-- A map of 0..n to itself that takes no value twice takes each: it is a permutation.
use Rattle.std.proofs.Common.{◌≡◌, ◌≢◌, ℕ, zero, suc, ◌+◌, ◌*◌, ◌<◌, ◌≤◌, refl, sym, ap, subst, ◌∙◌, ⊎_elim, ◌⊎◌, inl, inr, arith, ℤ, pos, ◌+ℤ◌}
use Rattle.std.proofs.lemmas.Bool.{cases_eq}
use Rattle.std.specs.Int.RustNames.{unsigned_abs}
use Rattle.co_math.specs.Sums.{total}
use Rattle.co_math.proofs.Bounds.{abs-total}
use Rattle.co_math.proofs.Totals.{total-add, total-none, total-ones, total-same, total-single, total-swap, Permutes, only, only-same, only-other}

record FoundAt (n : ℕ) (f : ℕ → ℕ) (j : ℕ) : Type 0 where
  pub place : ℕ
  pub below : place < n
  pub is : f place ≡ j

looked_for : (n : ℕ) (f : ℕ → ℕ) (j : ℕ) → FoundAt n f j ⊎ ((i : ℕ) → i < n → f i ≢ j)
looked_for zero f j = inr (λ i l. absurd (omega arith))
looked_for (suc n) f j = ⊎_elim
    (λ r. inl (record { place = r.place; below = omega (arith, r.below); is = r.is }))
    (λ none. ⊎_elim
    (λ e. inl (record { place = n; below = omega arith; is = e }))
    (λ ne. inr (λ i l e. ⊎_elim (λ same. ne (ap f (sym same) ∙ e)) (λ other. none i (omega arith) e) (cases_eq i n)))
    (cases_eq (f n) j))
    (looked_for n f j)

-- how often the value j is taken
count : ℕ → (ℕ → ℕ) → ℕ → ℤ
count n f j = total n (λ i. only (f i) j (pos 1))

module _ (n : ℕ) (f : ℕ → ℕ) (below : (i : ℕ) → i < n → f i < n) (apart : (i j : ℕ) → i < n → j < n → f i ≡ f j → i ≡ j) where
  count-none : (j : ℕ) → ((i : ℕ) → i < n → f i ≢ j) → count n f j ≡ pos 0
  unfolding count
  count-none j h = total-none n (λ i. only (f i) j (pos 1)) (λ i l. only-other (f i) j (pos 1) (h i l))

  count-found : (j : ℕ) → FoundAt n f j → count n f j ≡ pos 1
  unfolding count
  count-found j r =
      total-single n (λ i. only (f i) j (pos 1)) r.place r.below
      (λ i l ne. only-other (f i) j (pos 1) (λ e. ne (apart i r.place l r.below (e ∙ sym r.is))))
      ∙ only-same (f r.place) j (pos 1) r.is

  count-all : total n (count n f) ≡ pos n
  unfolding count
  count-all =
      sym (total-swap n n (λ i j. only (f i) j (pos 1)))
      ∙ total-same n (λ i. total n (λ j. only (f i) j (pos 1))) (λ i. pos 1)
      (λ i l. total-single n (λ j. only (f i) j (pos 1)) (f i) (below i l) (λ j u ne. only-other (f i) j (pos 1) (λ e. ne (sym e))) ∙ only-same (f i) (f i) (pos 1) refl)
      ∙ total-ones n

  -- a value that isn't taken could be taken once more
  with_one_more : (j k : ℕ) → count n f j ≡ pos 0 → unsigned_abs (count n f k +ℤ only j k (pos 1)) ≤ 1
  with_one_more j k none = ⊎_elim
      (λ e. at_most (ap (λ i. count n f i) (sym e) ∙ none) (only-same j k (pos 1) e))
      (λ ne. ⊎_elim
      (λ r. at_most_once (count-found k r) (only-other j k (pos 1) ne))
      (λ h. at_most_none (count-none k h) (only-other j k (pos 1) ne))
      (looked_for n f k))
      (cases_eq j k)
    where
      plain : (x y : ℤ) (u : ℕ) → x +ℤ y ≡ pos u → u ≤ 1 → unsigned_abs (x +ℤ y) ≤ 1
      plain x y u e l = subst (λ (z : ℤ). unsigned_abs z ≤ 1) (sym e) l

      at_most : count n f k ≡ pos 0 → only j k (pos 1) ≡ pos 1 → unsigned_abs (count n f k +ℤ only j k (pos 1)) ≤ 1
      at_most a b = plain (count n f k) (only j k (pos 1)) 1 (λ t. a t +ℤ b t) (omega arith)

      at_most_once : count n f k ≡ pos 1 → only j k (pos 1) ≡ pos 0 → unsigned_abs (count n f k +ℤ only j k (pos 1)) ≤ 1
      at_most_once a b = plain (count n f k) (only j k (pos 1)) 1 (λ t. a t +ℤ b t) (omega arith)

      at_most_none : count n f k ≡ pos 0 → only j k (pos 1) ≡ pos 0 → unsigned_abs (count n f k +ℤ only j k (pos 1)) ≤ 1
      at_most_none a b = plain (count n f k) (only j k (pos 1)) 0 (λ t. a t +ℤ b t) (omega arith)

  taken : (j : ℕ) → j < n → ((i : ℕ) → i < n → f i ≢ j) → ⊥
  taken j l h =
      let sum : total n (λ k. count n f k +ℤ only j k (pos 1)) ≡ pos (n + 1) =
      total-add n (count n f) (λ k. only j k (pos 1))
      ∙ (λ t. count-all t +ℤ (total-single n (λ k. only j k (pos 1)) j l (λ k u ne. only-other j k (pos 1) (λ e. ne (sym e))) ∙ only-same j j (pos 1) refl) t) in
      too_many (subst (λ (z : ℤ). unsigned_abs z ≤ n * 1) sum (abs-total n (λ k. count n f k +ℤ only j k (pos 1)) 1 (λ k u. with_one_more j k (count-none j h))))
    where
      too_many : n + 1 ≤ n * 1 → ⊥
      too_many l = omega arith

  found_or_not : (j : ℕ) → FoundAt n f j ⊎ ((i : ℕ) → i < n → f i ≢ j) → ℕ
  found_or_not j (inl r) = r.place
  found_or_not j (inr h) = 0

  found_or_not-below : (j : ℕ) (s : FoundAt n f j ⊎ ((i : ℕ) → i < n → f i ≢ j)) → j < n → found_or_not j s < n
  unfolding found_or_not
  found_or_not-below j (inl r) l = r.below
  found_or_not-below j (inr h) l = absurd (taken j l h)

  found_or_not-is : (j : ℕ) (s : FoundAt n f j ⊎ ((i : ℕ) → i < n → f i ≢ j)) → j < n → f (found_or_not j s) ≡ j
  unfolding found_or_not
  found_or_not-is j (inl r) l = r.is
  found_or_not-is j (inr h) l = absurd (taken j l h)

  -- where a value is taken
  pub place_of : ℕ → ℕ
  place_of j = found_or_not j (looked_for n f j)

  place_of-below : (j : ℕ) → j < n → place_of j < n
  unfolding place_of
  place_of-below j l = found_or_not-below j (looked_for n f j) l

  place_of-is : (j : ℕ) → j < n → f (place_of j) ≡ j
  unfolding place_of
  place_of-is j l = found_or_not-is j (looked_for n f j) l

  pub permutes : Permutes n f place_of
  permutes = record {
    there = below;
    back = place_of-below;
    undone = λ i l. apart (place_of (f i)) i (place_of-below (f i) (below i l)) l (place_of-is (f i) (below i l));
    redone = place_of-is;
  }
