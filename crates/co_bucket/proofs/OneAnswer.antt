-- There is one least assignment, and one witness.
use Rattle.std.proofs.Common.{◌≡◌, ◌<◌, ◌≤◌, ℕ, zero, suc, List, length, get_or, Option, Some, None, refl, sym, ap, ◌∙◌, subst, inl, inr, arith}
use Rattle.std.specs.List.{Contains}
use Rattle.std.specs.List.Sorted.{IsStrictlyIncreasing}
use Rattle.std.proofs.lemmas.Bool.{cases_lt, cases_order}
use Rattle.std.proofs.lemmas.List.{get_or_default, ext_get_or}
use Rattle.std.proofs.lemmas.List.Elements.{Contains-get_or}
use Rattle.std.proofs.lemmas.Map.Keys.{below_from_sorted, sorted_from_strictly_increasing}
use Rattle.co_bucket.specs.Placement.{IsAssignment, IsAssignmentBut, IsLeast, IsPlacement, IsWitness}

-- ---- the least assignment

pub same_choices : (cs : List (List ℕ)) (bs ds : List ℕ) → IsLeast cs bs → IsLeast cs ds → (fuel i : ℕ) → i < fuel → i < length cs → get_or bs i 0 ≡ get_or ds i 0
same_choices cs bs ds p q zero i less within = absurd (omega arith)
same_choices cs bs ds p q (suc fuel) i less within =
    let before : (j : ℕ) → j < i → get_or bs j 0 ≡ get_or ds j 0 = λ j below. same_choices cs bs ds p q fuel j (omega arith) (omega arith) in
    elim (cases_order (get_or bs i 0) (get_or ds i 0)) [
      | inl same ↦ same
      | inr (inl under) ↦ absurd (q.least bs p.assigns (i, within, before, under))
      | inr (inr over) ↦ absurd (p.least ds q.assigns (i, within, (λ j below. sym (before j below)), over))
    ]

either : (o u : Option ℕ) → ((i : ℕ) → o ≡ Some i → u ≡ Some i) → ((i : ℕ) → u ≡ Some i → o ≡ Some i) → o ≡ u
either None None to of = refl
either (Some i) u to of = sym (to i refl)
either None (Some i) to of = of i refl

placed_too : (cs : List (List ℕ)) (buckets : ℕ) (xs ys : List (Option ℕ)) → IsPlacement cs buckets xs → IsPlacement cs buckets ys → (b i : ℕ) → get_or xs b None ≡ Some i → get_or ys b None ≡ Some i
placed_too cs buckets xs ys p q b i is =
    let only = p.places.only b i is in
    let same : get_or q.choices i 0 ≡ b = sym (same_choices cs p.choices q.choices p.is_least q.is_least (suc i) i (omega arith) only.0) ∙ only.1 in
    subst (λ k. get_or ys k None ≡ Some i) same (q.places.each i only.0)

pub same_placement : (cs : List (List ℕ)) (buckets : ℕ) (xs ys : List (Option ℕ)) → IsPlacement cs buckets xs → IsPlacement cs buckets ys → xs ≡ ys
same_placement cs buckets xs ys p q =
    ext_get_or None xs ys (p.each_bucket ∙ sym q.each_bucket)
    (λ b below. either (get_or xs b None) (get_or ys b None) (placed_too cs buckets xs ys p q b) (placed_too cs buckets ys xs q p b))

-- ---- lists that ascend are known by their members

rises : (xs : List ℕ) → IsStrictlyIncreasing xs → (i j : ℕ) → i < j → j < length xs → get_or xs i 0 < get_or xs j 0
rises xs up i j below within = below_from_sorted xs i j 0 (sorted_from_strictly_increasing xs up) below within

not_less : (xs ys : List ℕ) → IsStrictlyIncreasing xs → IsStrictlyIncreasing ys → ((x : ℕ) → Contains xs x → Contains ys x) → (i : ℕ) → i < length xs → i < length ys
    → ((j : ℕ) → j < i → get_or xs j 0 ≡ get_or ys j 0) → get_or xs i 0 < get_or ys i 0 → ⊥
not_less xs ys up up' to i in_xs in_ys before less =
    let has : Contains ys (get_or xs i 0) = to (get_or xs i 0) (Contains-get_or xs i 0 in_xs) in
    let is : get_or ys has.0 0 ≡ get_or xs i 0 = get_or_default ys has.0 0 (get_or xs i 0) has.1 ∙ has.2 in
    elim (cases_order has.0 i) [
      | inl same ↦ absurd (omega (arith, ap (λ k. get_or ys k 0) same, is, less))
      | inr (inl low) ↦ absurd (omega (arith, is, before has.0 low, rises xs up has.0 i low in_xs))
      | inr (inr high) ↦ absurd (omega (arith, is, less, rises ys up' i has.0 high has.1))
    ]

same_items : (xs ys : List ℕ) → IsStrictlyIncreasing xs → IsStrictlyIncreasing ys → ((x : ℕ) → Contains xs x → Contains ys x) → ((x : ℕ) → Contains ys x → Contains xs x)
    → (fuel i : ℕ) → i < fuel → i < length xs → i < length ys → get_or xs i 0 ≡ get_or ys i 0
same_items xs ys up up' to of zero i less in_xs in_ys = absurd (omega arith)
same_items xs ys up up' to of (suc fuel) i less in_xs in_ys =
    let before : (j : ℕ) → j < i → get_or xs j 0 ≡ get_or ys j 0 = λ j below. same_items xs ys up up' to of fuel j (omega arith) (omega arith) (omega arith) in
    elim (cases_order (get_or xs i 0) (get_or ys i 0)) [
      | inl same ↦ same
      | inr (inl under) ↦ absurd (not_less xs ys up up' to i in_xs in_ys before under)
      | inr (inr over) ↦ absurd (not_less ys xs up' up of i in_ys in_xs (λ j below. sym (before j below)) over)
    ]

not_shorter : (xs ys : List ℕ) → IsStrictlyIncreasing xs → IsStrictlyIncreasing ys → ((x : ℕ) → Contains xs x → Contains ys x) → ((x : ℕ) → Contains ys x → Contains xs x) → length xs < length ys → ⊥
not_shorter xs ys up up' to of short =
    let last : ℕ = get_or ys (length xs) 0 in
    let has : Contains xs (get_or ys (length xs) 0) = of (get_or ys (length xs) 0) (Contains-get_or ys (length xs) 0 short) in
    let is : get_or xs has.0 0 ≡ get_or ys (length xs) 0 = get_or_default xs has.0 0 (get_or ys (length xs) 0) has.1 ∙ has.2 in
    let in_xs : has.0 < length xs = has.1 in
    let same = same_items xs ys up up' to of (suc has.0) has.0 (omega arith) in_xs (omega arith) in
    absurd (omega (arith, is, same, rises ys up' has.0 (length xs) in_xs short))

pub same_members : (xs ys : List ℕ) → IsStrictlyIncreasing xs → IsStrictlyIncreasing ys → ((x : ℕ) → Contains xs x → Contains ys x) → ((x : ℕ) → Contains ys x → Contains xs x) → xs ≡ ys
same_members xs ys up up' to of =
    let long : length xs ≡ length ys = elim (cases_order (length xs) (length ys)) [
      | inl same ↦ same
      | inr (inl short) ↦ absurd (not_shorter xs ys up up' to of short)
      | inr (inr short) ↦ absurd (not_shorter ys xs up' up of to short)
    ] in
    ext_get_or 0 xs ys long (λ i below. same_items xs ys up up' to of (suc i) i (omega arith) below (omega arith))

-- ---- the witness

prefix_within : (cs : List (List ℕ)) (items buckets items' buckets' : List ℕ) (w : IsWitness cs items buckets) (v : IsWitness cs items' buckets') → w.prefix ≤ v.prefix
prefix_within cs items buckets items' buckets' w v = elim (cases_lt v.prefix w.prefix) [
  | inl less ↦ (let a = w.shortest v.prefix less in absurd (v.none a.0 a.1))
  | inr within ↦ within
]

items_too : (cs : List (List ℕ)) (items buckets items' buckets' : List ℕ) (w : IsWitness cs items buckets) (v : IsWitness cs items' buckets') → (i : ℕ) → Contains items i → Contains items' i
items_too cs items buckets items' buckets' w v i has =
    let same : w.prefix ≡ v.prefix = omega (arith, prefix_within cs items buckets items' buckets' w v, prefix_within cs items' buckets' items buckets v w) in
    let is = (w.members i).0 has in
    (v.members i).1 (subst (λ n. (i < n) × ((bs : List ℕ) × IsAssignmentBut cs n i bs)) same is)

buckets_too : (cs : List (List ℕ)) (items buckets items' buckets' : List ℕ) (w : IsWitness cs items buckets) (v : IsWitness cs items' buckets') → (b : ℕ) → Contains buckets b → Contains buckets' b
buckets_too cs items buckets items' buckets' w v b has =
    let of = (w.candidates b).0 has in
    (v.candidates b).1 (of.0, items_too cs items buckets items' buckets' w v of.0 of.1, of.2)

pub one_items : (cs : List (List ℕ)) (items buckets items' buckets' : List ℕ) → IsWitness cs items buckets → IsWitness cs items' buckets' → items ≡ items'
one_items cs items buckets items' buckets' w v =
    same_members items items' w.items_ascend v.items_ascend (items_too cs items buckets items' buckets' w v) (items_too cs items' buckets' items buckets v w)

pub one_buckets : (cs : List (List ℕ)) (items buckets items' buckets' : List ℕ) → IsWitness cs items buckets → IsWitness cs items' buckets' → buckets ≡ buckets'
one_buckets cs items buckets items' buckets' w v =
    same_members buckets buckets' w.buckets_ascend v.buckets_ascend (buckets_too cs items buckets items' buckets' w v) (buckets_too cs items' buckets' items buckets v w)

pub refuses : (cs : List (List ℕ)) (items buckets bs : List ℕ) → IsWitness cs items buckets → IsAssignment cs (length cs) bs → ⊥
refuses cs items buckets bs w is = w.none bs (record {
  candidate = λ i below. is.candidate i (omega (arith, w.within));
  apart = λ i j below within. is.apart i j below (omega (arith, w.within));
})
