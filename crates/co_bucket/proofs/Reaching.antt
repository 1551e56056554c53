-- One more item reached, or a free bucket.
use Rattle.std.proofs.Common.{◌≡◌, ◌≢◌, ◌+◌, ◌-◌, ◌<◌, ◌≤◌, ◌⊎◌, ℕ, List, [], ◌∷◌, ◌++◌, length, get_or, set, eqb, false, zero, suc, add-one, refl, sym, ap, ◌∙◌, subst, inl, inr, ⊎_elim, arith, get_or-set_other, get_or-set_same, length-append, length-set}
use Rattle.std.specs.List.{Contains, IsDistinct, list_any}
use Rattle.std.proofs.lemmas.Map.Keys.{IsDistinct-from_apart}
use Rattle.std.proofs.lemmas.Map.Steps.{length-le_from_distinct_below}
use Rattle.std.proofs.lemmas.Map.Views.{Contains-from_any}
use Rattle.std.proofs.lemmas.Bool.{cases_eq, cases_lt, eq-eqb, eqb-true, false≢true}
use Rattle.std.proofs.lemmas.Bool.Decides.{eqb_tells}
use Rattle.std.proofs.lemmas.Grind.{elements}
use Rattle.std.proofs.lemmas.List.Elements.{Contains-append_left, Contains-push, Contains-push_cases, Contains-get_or}
use Rattle.std.proofs.lemmas.List.Folds.{list_any_at}
use Rattle.std.proofs.lemmas.List.{get_or_default, get_or_append_left, get_or-append_right}
use Rattle.co_bucket.specs.declared.TheConstants.{MOST_ITEMS}
use Rattle.co_bucket.specs.Placement.{IsCandidate, IsAssignmentBut}
use Rattle.co_bucket.specs.Reached.{IsReached, IsKept, IsClosed, IsStuck}

-- what a slice's `contains` says where it answers false
pub not_there : (xs : List ℕ) (b : ℕ) → list_any (λ y. eqb y b) xs ≡ false → Contains xs b → ⊥
not_there xs b none has = false≢true (sym none ∙ list_any_at (λ y. eqb y b) xs has.0 b has.1 (eq-eqb (get_or xs has.0 b) b has.2))

pub apart_tests : (a b : ℕ) → a ≢ b → eqb a b ≡ false
apart_tests a b other = elim (eqb_tells a b) [ inl h ↦ absurd (other h.1) | inr h ↦ h.0 ]

-- a number is y or another
pub by_eq : {C : Type 0} (i y : ℕ) → (i ≡ y → C) → (i ≢ y → C) → C
by_eq i y same other = ⊎_elim same other (cases_eq i y)

-- an element of a list with one more is an old one or the last
pub by_last : {C X : Type 0} (xs : List X) (y d : X) (k : ℕ) → k < length xs + 1
    → (k < length xs → get_or (xs ++ y ∷ []) k d ≡ get_or xs k d → C) → (k ≡ length xs → get_or (xs ++ y ∷ []) k d ≡ y → C) → C
by_last xs y d k within old last =
    ⊎_elim (λ (h : k < length xs). old h (get_or_append_left xs (y ∷ []) d k h))
    (λ (h : length xs ≤ k). let is : k ≡ length xs = omega arith in last is (get_or-append_right xs (y ∷ []) (length xs) k d refl h ∙ (let zero_is : k - length xs ≡ 0 = omega arith in ap (λ i. get_or (y ∷ []) i d) zero_is)))
    (cases_lt k (length xs))

-- bs with b at the item y, which had none; the item `out` gives its bucket up
pub moved : (cs : List (List ℕ)) (n y out b : ℕ) (bs : List ℕ) → IsAssignmentBut cs n y bs → y < length bs → IsCandidate cs y b
    → ((x : ℕ) → x < n → x ≢ y → x ≢ out → get_or bs x 0 ≢ b)
    → IsAssignmentBut cs n out (set bs y b)
moved cs n y out b bs but wide of free = record {
  candidate = λ i in_n not_out. by_eq i y
      (λ is. rw is (rw (get_or-set_same bs y b 0 wide) of))
      (λ apart. rw (get_or-set_other bs y i b 0 apart) (but.candidate i in_n apart));
  apart = λ i j below in_n not_i not_j. by_eq i y
      (λ is. let other : j ≢ y = omega arith in
      rw is (rw (get_or-set_same bs y b 0 wide, get_or-set_other bs y j b 0 other) (λ same. free j in_n other not_j (sym same))))
      (λ one. by_eq j y
      (λ is. let in_i : i < n = omega arith in
      rw is (rw (get_or-set_same bs y b 0 wide, get_or-set_other bs y i b 0 one) (free i in_i one not_i)))
      (λ two. rw (get_or-set_other bs y i b 0 one, get_or-set_other bs y j b 0 two) (but.apart i j below in_n one two)));
}

module _ (cs : List (List ℕ)) (n hole : ℕ) (choices items buckets : List ℕ) (shifted : List (List ℕ)) (r : IsReached cs n hole choices items buckets shifted) where
  -- each item reached is below n
  pub item_below : (j : ℕ) → j < length items → get_or items j 0 < n
  item_below zero in_items = rw r.first r.hole_in
  item_below (suc j) in_items = let h : j < length buckets = omega (arith, r.one_fewer) in rw (← add-one j) (r.item_in j h)

  -- a bucket that is not reached is, in each assignment reached, with the item that has it at the start or with none
  pub still_free : (j out b : ℕ) → j < length items → (Contains buckets b → ⊥) → ((x : ℕ) → x < n → x ≢ hole → x ≢ out → get_or choices x 0 ≢ b)
      → (x : ℕ) → x < n → x ≢ get_or items j 0 → x ≢ out → get_or (get_or shifted j []) x 0 ≢ b
  still_free j out b in_items unreached free x in_n other not_out same =
      ⊎_elim (λ near. free x in_n near.0 not_out (sym near.1 ∙ same)) (λ has. unreached (subst (Contains buckets) same has)) (r.near j x in_items in_n other)

  -- the bucket put at an item that was reached
  pub shifts : (j out b : ℕ) → n ≤ MOST_ITEMS → j < length items → IsCandidate cs (get_or items j 0) b → (Contains buckets b → ⊥)
      → ((x : ℕ) → x < n → x ≢ hole → x ≢ out → get_or choices x 0 ≢ b)
      → IsAssignmentBut cs n out (set (get_or shifted j []) (get_or items j 0) b)
  shifts j out b few in_items of unreached free =
      let wide : get_or items j 0 < length (get_or shifted j []) = omega (arith, item_below j in_items, r.wide j in_items) in
      moved cs n (get_or items j 0) out b (get_or shifted j []) (r.placed j in_items) wide of (still_free j out b in_items unreached free)

  -- an owner is the only one
  pub owner_alone : (z b : ℕ) → z < n → z ≢ hole → get_or choices z 0 ≡ b → (x : ℕ) → x < n → x ≢ hole → x ≢ z → get_or choices x 0 ≢ b
  owner_alone z b in_z not_hole has x in_n other apart same =
      ⊎_elim (λ (below : x < z). r.base.apart x z below in_z other not_hole (same ∙ sym has))
      (λ (above : z ≤ x). let over : z < x = omega arith in r.base.apart z x over in_n not_hole other (has ∙ sym same))
      (cases_lt x z)

  -- near stays near with one more bucket
  widened : (b x v : ℕ) → ((x ≢ hole) × (v ≡ get_or choices x 0)) ⊎ Contains buckets v → ((x ≢ hole) × (v ≡ get_or choices x 0)) ⊎ Contains (buckets ++ b ∷ []) v
  widened b x v near = ⊎_elim (λ h. inl h) (λ h. inr (Contains-append_left buckets (b ∷ []) v h)) near

  -- what was reached, with one more
  pub grown : (j z b : ℕ) → n ≤ MOST_ITEMS → j < length items → IsCandidate cs (get_or items j 0) b → (Contains buckets b → ⊥)
      → z < n → z ≢ hole → get_or choices z 0 ≡ b
      → IsReached cs n hole choices (items ++ z ∷ []) (buckets ++ b ∷ []) (shifted ++ set (get_or shifted j []) (get_or items j 0) b ∷ [])
  grown j z b few in_items of unreached in_z not_hole has =
      let some : 0 < length items = omega (arith, r.one_fewer) in
      let filled : List ℕ = set (get_or shifted j []) (get_or items j 0) b in
      let filled_is : IsAssignmentBut cs n z filled = shifts j z b few in_items of unreached (owner_alone z b in_z not_hole has) in
      let more : length (buckets ++ b ∷ []) ≡ length buckets + 1 = length-append buckets (b ∷ []) in
      let more_items : length (items ++ z ∷ []) ≡ length items + 1 = length-append items (z ∷ []) in
      let fewer : length items ≡ length buckets + 1 = r.one_fewer in
      let copies : length shifted ≡ length items = r.copies in
      record {
        base = r.base;
        hole_in = r.hole_in;
        one_fewer = grind (arith, elements, r.one_fewer);
        copies = grind (arith, elements, r.copies);
        first = grind (arith, elements, r.first, some);
        item_in = λ k in_k. by_last items z 0 (k + 1) (omega arith) (λ old e. rw e (r.item_in k (omega arith))) (λ last e. rw e in_z);
        item_not = λ k in_k. by_last items z 0 (k + 1) (omega arith) (λ old e. rw e (r.item_not k (omega arith))) (λ last e. rw e not_hole);
        owned = λ k in_k. by_last buckets b 0 k (omega arith)
            (λ old e. rw (e, get_or_append_left items (z ∷ []) 0 (k + 1) (omega arith)) (r.owned k old))
            (λ last e. by_last items z 0 (k + 1) (omega arith) (λ wrong e'. absurd (omega arith)) (λ last' e'. rw (e, e') has));
        apart = λ i k below in_k. by_last buckets b 0 k (omega arith)
            (λ old e. rw (e, get_or_append_left buckets (b ∷ []) 0 i (omega arith)) (r.apart i k below old))
            (λ last e. rw (e, get_or_append_left buckets (b ∷ []) 0 i (omega arith)) (λ same. unreached (subst (Contains buckets) same (Contains-get_or buckets i 0 (omega arith)))));
        wide = λ k in_k. by_last shifted filled [] k (omega arith)
            (λ old e. rw e (r.wide k (omega arith)))
            (λ last e. rw e (length-set (get_or shifted j []) (get_or items j 0) b ∙ r.wide j in_items));
        placed = λ k in_k. by_last shifted filled [] k (omega arith)
            (λ old e. rw (e, get_or_append_left items (z ∷ []) 0 k (omega arith)) (r.placed k (omega arith)))
            (λ last e. by_last items z 0 k (omega arith) (λ wrong e'. absurd (omega arith)) (λ last' e'. rw (e, e') filled_is));
        near = λ k x in_k in_n other. by_last shifted filled [] k (omega arith)
            (λ old e. let before : get_or (items ++ z ∷ []) k 0 ≡ get_or items k 0 = get_or_append_left items (z ∷ []) 0 k (omega arith) in
            rw e (widened b x (get_or (get_or shifted k []) x 0) (r.near k x (omega arith) in_n (λ same. other (same ∙ sym before)))))
            (λ last e. rw e (by_eq x (get_or items j 0)
            (λ is. inr (subst (Contains (buckets ++ b ∷ []))
            (sym (ap (λ i. get_or filled i 0) is ∙ get_or-set_same (get_or shifted j []) (get_or items j 0) b 0 (omega (arith, item_below j in_items, r.wide j in_items))))
            (Contains-push buckets b)))
            (λ apart. rw (get_or-set_other (get_or shifted j []) (get_or items j 0) x b 0 apart)
            (widened b x (get_or (get_or shifted j []) x 0) (r.near j x in_items in_n apart)))));
        asked = λ c has. ⊎_elim
            (λ (old : Contains buckets c). let a = r.asked c old in (a.0, omega (arith, a.1), rw (get_or_append_left items (z ∷ []) 0 a.0 a.1) a.2))
            (λ (is : b ≡ c). (j, omega arith, rw (get_or_append_left items (z ∷ []) 0 j in_items) (subst (IsCandidate cs (get_or items j 0)) is of)))
            (Contains-push_cases buckets b c has);
      }

  -- the two steps as the code writes them: a and y are what was read at j
  pub placed_free : (j y b : ℕ) (a : List ℕ) → a ≡ get_or shifted j a → y ≡ get_or items j y → n ≤ MOST_ITEMS → j < length items → IsCandidate cs (get_or items j 0) b
      → list_any (λ x. eqb x b) buckets ≡ false → ((x : ℕ) → x < n → x ≢ hole → get_or choices x 0 ≢ b)
      → IsAssignmentBut cs n n (set a y b)
  placed_free j y b a a_is y_is few in_items of unreached free =
      let copies : length shifted ≡ length items = r.copies in
      let a' : a ≡ get_or shifted j [] = a_is ∙ get_or_default shifted j a [] (omega arith) in
      let y' : y ≡ get_or items j 0 = y_is ∙ get_or_default items j y 0 in_items in
      rw (a', y') (shifts j n b few in_items of (not_there buckets b unreached) (λ x in_n other not_out. free x in_n other))

  pub placed_more : (j y b z : ℕ) (a items' buckets' : List ℕ) (shifted' : List (List ℕ)) → a ≡ get_or shifted j a → y ≡ get_or items j y → n ≤ MOST_ITEMS → j < length items → IsCandidate cs (get_or items j 0) b
      → list_any (λ x. eqb x b) buckets ≡ false → z < n → z ≢ hole → get_or choices z 0 ≡ b
      → items' ≡ items ++ z ∷ [] → buckets' ≡ buckets ++ b ∷ [] → shifted' ≡ shifted ++ set a y b ∷ []
      → IsReached cs n hole choices items' buckets' shifted'
  placed_more j y b z a items' buckets' shifted' a_is y_is few in_items of unreached in_z not_hole has i_is b_is s_is =
      let copies : length shifted ≡ length items = r.copies in
      let a' : a ≡ get_or shifted j [] = a_is ∙ get_or_default shifted j a [] (omega arith) in
      let y' : y ≡ get_or items j 0 = y_is ∙ get_or_default items j y 0 in_items in
      rw (i_is, b_is, s_is, a', y') (grown j z b few in_items of (not_there buckets b unreached) in_z not_hole has)

  -- no item is reached twice
  pub items_apart : (i j : ℕ) → i < j → j < length items → get_or items i 0 ≢ get_or items j 0
  items_apart i zero below in_j = absurd (omega arith)
  items_apart zero (suc j) below in_j =
      let h : j < length buckets = omega (arith, r.one_fewer) in
      rw (r.first, ← add-one j) (λ same. r.item_not j h (sym same))
  items_apart (suc i) (suc j) below in_j =
      let h : j < length buckets = omega (arith, r.one_fewer) in
      let h' : i < length buckets = omega (arith, r.one_fewer) in
      let less : i < j = omega arith in
      rw (← add-one j, ← add-one i) (λ same. r.apart i j less h (sym (r.owned i h') ∙ ap (λ x. get_or choices x 0) same ∙ r.owned j h))

  distinct : IsDistinct eqb items
  distinct = IsDistinct-from_apart eqb items (λ i j d below in_j.
      let in_i : i < length items = omega arith in
      rw (get_or_default items i d 0 in_i, get_or_default items j d 0 in_j) (apart_tests _ _ (items_apart i j below in_j)))

  -- at most as many items are reached as there are
  pub items_few : length items ≤ n
  items_few = length-le_from_distinct_below items n distinct (λ q any.
      let has : Contains items q = Contains-from_any eqb-true q items any in
      subst (λ x. x < n) (get_or_default items has.0 0 q has.1 ∙ has.2) (item_below has.0 has.1))

  -- all is reached that can be
  pub stuck : ((j : ℕ) → j < length items → IsClosed cs items buckets j) → IsStuck cs n items buckets
  stuck closed = record {
    one_fewer = r.one_fewer;
    item_in = item_below;
    items_apart = items_apart;
    buckets_apart = r.apart;
    closed = closed;
    asked = r.asked;
    placed = λ j in_j. (get_or shifted j [], r.placed j in_j);
  }

pub kept_more : (i b i' b' i'' b'' : List ℕ) → IsKept i b i' b' → IsKept i' b' i'' b'' → IsKept i b i'' b''
kept_more i b i' b' i'' b'' one two = record {
  more = omega (arith, one.more, two.more);
  same = λ j in_j. two.same j (omega (arith, one.more)) ∙ one.same j in_j;
  still = λ x has. two.still x (one.still x has);
}

pub closed_still : (cs : List (List ℕ)) (items buckets items' buckets' : List ℕ) → IsKept items buckets items' buckets' → (j : ℕ) → j < length items → IsClosed cs items buckets j → IsClosed cs items' buckets' j
closed_still cs items buckets items' buckets' kept j in_j closed b of = kept.still b (closed b (subst (λ i. IsCandidate cs i b) (kept.same j in_j) of))

-- an index that was read from the items
pub within_rows : (cs : List (List ℕ)) (n hole : ℕ) (choices items buckets : List ℕ) (shifted : List (List ℕ)) → IsReached cs n hole choices items buckets shifted
    → (j y : ℕ) → n ≤ length cs → j < length items → y ≡ get_or items j y → y < length cs
within_rows cs n hole choices items buckets shifted r j y within in_j is =
    let y' : y ≡ get_or items j 0 = is ∙ get_or_default items j y 0 in_j in omega (arith, item_below cs n hole choices items buckets shifted r j in_j)
