-- Each step of a board keeps its rule.
use Rattle.std.proofs.Common.{◌≡◌, ℕ, zero, suc, ◌+◌, ◌-◌, ◌%◌, ◌^◌, ◌<◌, ◌≤◌, ◌≢◌, false, List, [], ◌∷◌, ◌++◌, length, get_or, set, sym, refl, ap, ◌∙◌, subst, ⊎_elim, arith, length-append}
use Rattle.std.proofs.lemmas.Bool.Decides.{nat_tests}
use Rattle.std.proofs.lemmas.List.Elements.{All-append}
use Rattle.std.specs.Prelude.{nat_eq, All, if◌then◌else◌}
use mathlib.Core.Option.{none, some, some-injective, some-ne-none}
use lib.ListN.{get_elem?}
use Rattle.atomic_table.specs.Table.{State, Me, step, keeps, stepped, Allows, Splits, Joins, opening}
use Rattle.atomic_table.proofs.Lists.{at_set, at_snoc}
use Rattle.co_board.specs.declared.rule.Limits.{Limits}
use Rattle.co_board.specs.declared.rule.Hand.{Hand}
use Rattle.co_board.specs.Once.{once_below}
use Rattle.co_board.specs.Machine.{Machine, begun, drawn_by, Claims}
use Rattle.co_board.specs.Rule.{hand, IsHand, hands_of, Holds, hands_from, all_hands, first_hand, front_hand, other_hands, Drew}
use Rattle.co_board.specs.Passes.{has_passed}
use Rattle.co_board.proofs.Sums.{sum_over-append, sum_over-snoc, sum_over-set, one-le-sum, two-le-sum, once-step}
use Rattle.co_board.proofs.Machines.{Facts, facts_of, word_bound, get_or-replicate, drawn_here, drawn_else}

abbrev Table : Type 0
Table = State (Unit {0}) (List Hand)

none_passed : (units : ℕ) (xs : List ℕ) → has_passed units xs ≡ false → All (λ n. n < units) xs
none_passed units [] e k d l = absurd (omega arith)
none_passed units (x ∷ xs) e zero d l = grind (arith, nat_tests)
none_passed units (x ∷ xs) e (suc k) d l = none_passed units xs (grind (arith, nat_tests)) k d (omega arith)

not_of : (p : ℕ) (v : List Hand) → hands_of p v ≡ 0 → All (λ h. h.number ≢ p) v
not_of p [] e k d l = absurd (omega arith)
not_of p (h ∷ hs) e zero d l = λ is. grind (arith, nat_tests)
not_of p (h ∷ hs) e (suc k) d l = not_of p hs (omega arith) k d (omega arith)

of_own : (h : Hand) → hands_of h.number (h ∷ []) ≡ 1
of_own h = grind (arith, nat_tests)

below_seats : (seats p : ℕ) → 1 ≤ once_below seats p → p < seats
below_seats seats p h = grind (arith, nat_tests)

at_most_once : (seats p : ℕ) → once_below seats p ≤ 1
at_most_once seats p = grind (arith, nat_tests)

one_hand : (limits : Limits) (m : Machine) (h : Hand) → IsHand limits m h → All (IsHand limits m) (h ∷ [])
one_hand limits m h is zero d l = is
one_hand limits m h is (suc k) d l = absurd (omega arith)

module _ (limits : Limits) (few : limits.units ≤ 2 ^ 32) (small : limits.seats ≤ 64) where
  module _ (s : Table) (r : Holds limits s) (id : ℕ) (h : Hand) (at : get_elem? s.views id ≡ some (h ∷ [])) (not_yet : has_passed h.limits.units h.drawn ≡ false) where
    abbrev m : Machine
    m = r.machine

    abbrev drawn_now : List ℕ
    drawn_now = drawn_by m h.number

    abbrev next : Machine
    next = record { word = m.word + 1; lists = set m.lists h.number (drawn_now ++ m.word ∷ []) }

    abbrev h' : Hand
    h' = hand h.limits h.number (h.drawn ++ m.word ∷ [])

    mine : IsHand limits m h
    mine = r.hands id (h ∷ []) at 0 h (omega arith)

    facts : Facts limits.units limits.seats m
    facts = facts_of limits.units limits.seats m r.reached

    claim : Claims limits.units h.number m next
    claim = record {
      is_pass = let one = one-le-sum (hands_of h.number) s.views id (h ∷ []) at in let own = of_own h in let p = r.passes h.number in let b = below_seats limits.seats h.number (omega arith) in let l = facts.long in omega arith;
      may = subst (λ xs. All (λ n. n < limits.units) xs) mine.drawn_is (subst (λ (z : Limits). All (λ n. n < z.units) h.drawn) mine.limits_are (none_passed h.limits.units h.drawn not_yet));
      word = refl;
      lists = refl;
    }

    others : (other : ℕ) (v : List Hand) → other ≢ id → get_elem? s.views other ≡ some v → All (IsHand limits next) v
    others other v ne there = let two = two-le-sum (hands_of h.number) s.views id other (h ∷ []) v (λ e. ne (sym e)) at there in let own = of_own h in let p = r.passes h.number in let most = at_most_once limits.seats h.number in
        let none = not_of h.number v (omega arith) in
        λ k d l. let was = r.hands other v there k d l in record { limits_are = was.limits_are; drawn_is = was.drawn_is ∙ sym (drawn_else limits.units h.number m next claim (get_or v k d).number (none k d l)) }

    claimed : Holds limits (stepped s 0 ((get_or s.words 0 0 + 1) % 2 ^ 64) id [] (h' ∷ []) keeps)
    claimed = record {
      machine = next;
      reached = record { history = h.number ∷ r.reached.history; came = (m, r.reached.came, claim) };
      word = let now : get_or s.words 0 0 ≡ m.word = ap (λ ws. get_or ws 0 0) r.word in let most = word_bound limits.units limits.seats m facts in let is : (get_or s.words 0 0 + 1) % 2 ^ 64 ≡ m.word + 1 = omega arith in
          ap (λ ws. set ws 0 ((get_or s.words 0 0 + 1) % 2 ^ 64)) r.word ∙ ap (λ n. n ∷ []) is;
      hands = λ other v e. ⊎_elim
          (λ here. subst (λ x. All (IsHand limits next) x) here.1 (one_hand limits next h' (record { limits_are = mine.limits_are; drawn_is = ap (λ xs. xs ++ m.word ∷ []) mine.drawn_is ∙ sym (drawn_here limits.units h.number m next claim) })))
          (λ there. others other v there.0 there.1) (at_set s.views id other (h' ∷ []) v e);
      passes = λ p. let sum = sum_over-set (hands_of p) s.views id (h ∷ []) (h' ∷ []) at in let was = r.passes p in omega arith;
      carried = let sum = sum_over-set length s.views id (h ∷ []) (h' ∷ []) at in let was = r.carried in omega arith;
    }

    found : All (λ d. d < get_or s.words 0 0) h.drawn
    found = subst (λ xs. All (λ d. d < get_or s.words 0 0) xs) (sym mine.drawn_is) (subst (λ w. All (λ d. d < w) drawn_now) (sym (ap (λ ws. get_or ws 0 0) r.word)) (facts.below h.number))

  pub claims : (slots id : ℕ) (h : Hand) → has_passed h.limits.units h.drawn ≡ false
      → Allows (Holds limits) slots id (h ∷ [], []) 0 (λ n. (n + 1) % 2 ^ 64) (Drew (step slots 0 1 0 none) (h ∷ [], []))
  claims slots id h not_yet s r _ at _ = let same : get_or s.words 0 0 ≡ r.machine.word = ap (λ ws. get_or ws 0 0) r.word in (
    h' s r id h at not_yet ∷ [],
    keeps,
    tt,
    claimed s r id h at not_yet,
    (ap (λ (n : ℕ). (hand h.limits h.number (h.drawn ++ n ∷ []) ∷ [], [])) (sym same), found s r id h at not_yet),
  )

  pub claims_as : (slots id : ℕ) (me : Me (Unit {0}) (List Hand)) → me ≡ (first_hand me.0 ∷ [], []) → has_passed (first_hand me.0).limits.units (first_hand me.0).drawn ≡ false
      → Allows (Holds limits) slots id me 0 (λ n. (n + 1) % 2 ^ 64) (Drew (step slots 0 1 0 none) me)
  claims_as slots id me one not_yet = subst (λ (m : Me (Unit {0}) (List Hand)). Allows (Holds limits) slots id m 0 (λ n. (n + 1) % 2 ^ 64) (Drew (step slots 0 1 0 none) m)) (sym one) (claims slots id (first_hand me.0) not_yet)

cut : (f : List Hand → ℕ) → f [] ≡ 0 → ((h : Hand) (hs : List Hand) → f (h ∷ hs) ≡ f (h ∷ []) + f hs) → (v : List Hand) → f (other_hands v) + f (front_hand v) ≡ f v
cut f nil more [] = omega (arith, nil)
cut f nil more (h ∷ hs) = omega (arith, more h hs)

in_front : (P : Hand → Type 0) (v : List Hand) → All P v → All P (front_hand v)
in_front P [] all k d l = absurd (omega arith)
in_front P (h ∷ hs) all zero d l = all 0 h (omega arith)
in_front P (h ∷ hs) all (suc k) d l = absurd (omega arith)

in_others : (P : Hand → Type 0) (v : List Hand) → All P v → All P (other_hands v)
in_others P [] all k d l = absurd (omega arith)
in_others P (h ∷ hs) all k d l = all (suc k) d (omega arith)

none_held : (P : Hand → Type 0) → All P []
none_held P k d l = absurd (omega arith)

module _ (limits : Limits) where
  pub deals : (id : ℕ) (v : List Hand) → Splits (Holds limits) id v (other_hands v) (front_hand v)
  deals id v s r at = record {
    machine = r.machine;
    reached = r.reached;
    word = r.word;
    hands = λ other w e. ⊎_elim
        (λ old. ⊎_elim
        (λ here. subst (λ x. All (IsHand limits r.machine) x) here.1 (in_others (IsHand limits r.machine) v (r.hands id v at)))
        (λ there. r.hands other w there.1) (at_set s.views id other (other_hands v) w old))
        (λ new. subst (λ x. All (IsHand limits r.machine) x) new (in_front (IsHand limits r.machine) v (r.hands id v at)))
        (at_snoc (set s.views id (other_hands v)) (front_hand v) w other e);
    passes = λ p. let sum = sum_over-set (hands_of p) s.views id v (other_hands v) at in let more = sum_over-snoc (hands_of p) (set s.views id (other_hands v)) (front_hand v) in
        let two = cut (hands_of p) refl (λ h hs. omega arith) v in let was = r.passes p in omega arith;
    carried = let sum = sum_over-set length s.views id v (other_hands v) at in let more = sum_over-snoc length (set s.views id (other_hands v)) (front_hand v) in
        let two = cut length refl (λ h hs. omega arith) v in let was = r.carried in omega arith;
  }

  pub joins : (id : ℕ) (v : List Hand) (other : ℕ) (w : List Hand) → Joins (Holds limits) id v other w (v ++ w) []
  joins id v other w s r at ne there = let P : Hand → Type 0 = IsHand limits r.machine in let was : get_elem? s.views other ≡ some w = ⊎_elim (λ here. absurd (ne here.0)) (λ e. e.1) (at_set s.views id other (v ++ w) w there) in record {
    machine = r.machine;
    reached = r.reached;
    word = r.word;
    hands = λ k x e. ⊎_elim
        (λ here. subst (λ (y : List Hand). All P y) here.1 (none_held P))
        (λ kept. ⊎_elim
        (λ here. subst (λ (y : List Hand). All P y) here.1 (All-append P v w (r.hands id v at) (r.hands other w was)))
        (λ old. r.hands k x old.1) (at_set s.views id k (v ++ w) x kept.1))
        (at_set (set s.views id (v ++ w)) other k [] x e);
    passes = λ p. let first = sum_over-set (hands_of p) s.views id v (v ++ w) at in let second = sum_over-set (hands_of p) (set s.views id (v ++ w)) other w [] there in
        let both = sum_over-append (λ (h : Hand). if nat_eq h.number p then 1 else 0) v w in let old = r.passes p in omega arith;
    carried = let first = sum_over-set length s.views id v (v ++ w) at in let second = sum_over-set length (set s.views id (v ++ w)) other w [] there in
        let both = length-append v w in let old = r.carried in omega arith;
  }

  pub length-hands : (from count : ℕ) → length (hands_from limits from count) ≡ count
  length-hands from zero = refl
  length-hands from (suc count) = omega (arith, length-hands (from + 1) count)

  hands-count : (p from count : ℕ) → hands_of p (hands_from limits from count) + once_below from p ≡ once_below (from + count) p
  hands-count p from zero = let e : once_below (from + 0) p ≡ once_below from p = ap (λ n. once_below n p) (omega arith) in omega arith
  hands-count p from (suc count) = let more = hands-count p (from + 1) count in let at : once_below (from + 1 + count) p ≡ once_below (from + suc count) p = ap (λ n. once_below n p) (omega arith) in let next = once-step from p in omega arith

  none_drawn : (from count seats : ℕ) → All (IsHand limits (begun seats)) (hands_from limits from count)
  none_drawn from zero seats k d l = absurd (omega arith)
  none_drawn from (suc count) seats zero d l = record { limits_are = refl; drawn_is = sym (get_or-replicate seats from) }
  none_drawn from (suc count) seats (suc k) d l = none_drawn (from + 1) count seats k d (omega arith)

  pub opens : Holds limits (opening (0 ∷ []) [] (all_hands limits))
  opens = record {
    machine = begun limits.seats;
    reached = record { history = []; came = refl };
    word = refl;
    hands = only;
    passes = λ p. let all = hands-count p 0 limits.seats in let none : once_below 0 p ≡ 0 = grind (arith, nat_tests) in let e : once_below (0 + limits.seats) p ≡ once_below limits.seats p = ap (λ n. once_below n p) (omega arith) in omega arith;
    carried = omega (arith, length-hands 0 limits.seats);
  }
    where
      only : (id : ℕ) (v : List Hand) → get_elem? (all_hands limits ∷ []) id ≡ some v → All (IsHand limits (begun limits.seats)) v
      only zero v e = subst (λ (y : List Hand). All (IsHand limits (begun limits.seats)) y) (some-injective (all_hands limits) v e) (none_drawn 0 limits.seats limits.seats)
      only (suc id) v e = absurd (some-ne-none v (sym e))

  pub hands_next : (n : ℕ) → n < limits.seats → hands_from limits n (limits.seats - n) ≡ hand limits n [] ∷ hands_from limits (n + 1) (limits.seats - (n + 1))
  hands_next n h = let more : limits.seats - n ≡ suc (limits.seats - (n + 1)) = omega arith in ap (hands_from limits n) more

  -- the hand of the last pass
  pub hands_last : (n : ℕ) → n + 1 ≡ limits.seats → hands_from limits n (limits.seats - n) ≡ hand limits n [] ∷ []
  hands_last n e = let none : limits.seats - (n + 1) ≡ 0 = omega arith in hands_next n (omega arith) ∙ ap (λ k. hand limits n [] ∷ hands_from limits (n + 1) k) none
