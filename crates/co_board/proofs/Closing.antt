-- What the passes of a board have drawn together, once it is closed.
use Rattle.std.proofs.Common.{◌≡◌, ℕ, suc, ◌+◌, ◌*◌, ◌<◌, ◌≤◌, Bool, true, false, cond, List, [], ◌∷◌, ◌++◌, length, get_or, map, append_assoc, sym, refl, ap, ◌∙◌, subst, arith}
use Rattle.std.proofs.lemmas.Bool.Decides.{nat_tests}
use Rattle.std.proofs.lemmas.List.{map-append}
use Rattle.std.specs.Prelude.{nat_eq, nat_lt, All, if◌then◌else◌}
use native.Mathlib.Decide.{dec_le}
use mathlib.Core.Logic.{dite}
use mathlib.Core.Bool.{false≢true}
use mathlib.Core.Option.{some, some-injective}
use lib.ListN.{get_elem?}
use Rattle.atomic_table.specs.Table.{State, Final, Seen}
use Rattle.atomic_table.specs.Seated.{TableId}
use Rattle.co_board.specs.declared.rule.Limits.{Limits}
use Rattle.co_board.specs.declared.rule.Hand.{Hand}
use Rattle.co_board.specs.Once.{sum_over, times, once_below, sum_below, EachOnce}
use Rattle.co_board.specs.Machine.{drawn_by}
use Rattle.co_board.specs.Rule.{hands_of, Holds, first_hand}
use Rattle.co_board.specs.Passes.{BoardValue, PassValue, pass_of, drawn_of, has_passed, HadNone, units_in, units_of, IsClosed}
use Rattle.co_board.proofs.Sums.{sum_over-map, sum_over-same, sum_over-scale, All-mapped, all_in_one}
use Rattle.co_board.proofs.Machines.{Facts, facts_of}
use Rattle.co_board.proofs.Counts.{sum_below-list, by_number}

none_carried : (p : ℕ) (v : List Hand) → length v ≡ 0 → hands_of p v ≡ 0
none_carried p [] e = refl
none_carried p (h ∷ hs) e = absurd (omega arith)

above_in : (units w : ℕ) (xs : List ℕ) → has_passed units xs ≡ true → All (λ d. d < w) xs → units < w
above_in units w [] h all = absurd (false≢true h)
above_in units w (x ∷ xs) h all = dite (dec_le units x)
    (λ here. let l : x < w = all 0 x (omega arith) in omega arith)
    (λ not. above_in units w xs (grind (arith, nat_tests)) (λ k d l. all (suc k) d (omega arith)))

kept_times : (units x y : ℕ) → nat_lt y units ≡ true → once_below units x * (if nat_eq y x then 1 else 0) ≡ (if nat_eq y x then 1 else 0)
kept_times units x y h = grind (arith, nat_tests)

left_times : (units x y : ℕ) → nat_lt y units ≡ false → once_below units x * (if nat_eq y x then 1 else 0) ≡ 0
left_times units x y h = grind (arith, nat_tests)

times-step : (units x y t : ℕ) (zs : List ℕ) (b : Bool) → nat_lt y units ≡ b → times x zs ≡ once_below units x * t → times x (cond b (y ∷ zs) zs) ≡ once_below units x * ((if nat_eq y x then 1 else 0) + t)
times-step units x y t zs true is more = let k = kept_times units x y is in omega (arith, k, more)
times-step units x y t zs false is more = let k = left_times units x y is in omega (arith, k, more)

times-units : (units x : ℕ) (xs : List ℕ) → times x (units_in units xs) ≡ once_below units x * times x xs
times-units units x [] = omega arith
times-units units x (y ∷ ys) = times-step units x y (times x ys) (units_in units ys) (nat_lt y units) refl (times-units units x ys)

once-inside : (units w x : ℕ) → units < w → once_below units x * once_below w x ≡ once_below units x
once-inside units w x h = grind (arith, nat_tests)

both_once : (units w x : ℕ) → once_below units x * once_below w x ≤ once_below units x
both_once units w x = grind (arith, nat_tests)

pub closes : (limits : Limits) (table : TableId) (id : ℕ) (hs : List Hand) (ws : List ℕ) (xs : List (Unit {0})) (w : ℕ) → length hs ≡ limits.seats
    → Final (Seen (Holds limits) id hs) ws xs → get_elem? ws 0 ≡ some w
    → IsClosed (record { units = limits.units; seats = limits.seats; table = table }) (map (pass_of table) hs) w
closes limits table id hs ws xs w long final at = let s : State (Unit {0}) (List Hand) = final.0 in let r : Holds limits s = final.1.0 in let seen : get_elem? s.views id ≡ some hs = final.1.1 in record {
  machine = r.machine;
  reached = r.reached;
  word_is = some-injective r.machine.word w (ap (λ l. get_elem? l 0) (sym r.word ∙ final.2) ∙ at);
  drawn = All-mapped (λ (p : PassValue). p.drawn ≡ drawn_by r.machine p.number) (pass_of table) hs (λ k d l. (r.hands id hs seen k d l).drawn_is);
  numbers = λ p. sum_over-map (λ (q : PassValue). if nat_eq q.number p then 1 else 0) (pass_of table) hs ∙ sym (all_in_one (hands_of p) length s.views id hs (none_carried p) seen (r.carried ∙ sym long)) ∙ r.passes p;
}

module _ (b : BoardValue) (ps : List PassValue) (w : ℕ) (c : IsClosed b ps w) where
  facts : Facts b.units b.seats c.machine
  facts = facts_of b.units b.seats c.machine c.reached

  pub each_once : EachOnce w (map drawn_of ps)
  each_once = record {
    each = λ x. let f : ℕ → ℕ = λ i. times x (drawn_by c.machine i) in
        sum_over-map (times x) drawn_of ps ∙ sum_over-same (λ p. times x p.drawn) (λ p. f p.number) ps (λ k d l. ap (times x) (c.drawn k d l))
        ∙ by_number (λ (p : PassValue). p.number) f b.seats ps c.numbers ∙ ap (λ n. sum_below n f) (sym facts.long) ∙ sum_below-list (times x) c.machine.lists [] ∙ facts.each x ∙ ap (λ n. once_below n x) c.word_is;
  }

  passed_above : (xs : List ℕ) → has_passed b.units xs ≡ true → All (λ d. d < w) xs → b.units < w
  passed_above xs = above_in b.units w xs

  units_below : 1 ≤ b.seats → length ps ≡ b.seats → All (HadNone b.units) ps → b.units < w
  units_below some_pass long all = first ps (omega arith) all (λ k d l. subst (λ (xs : List ℕ). All (λ n. n < w) xs) (sym (c.drawn k d l)) (subst (λ v. All (λ n. n < v) (drawn_by c.machine (get_or ps k d).number)) c.word_is (facts.below (get_or ps k d).number)))
    where
      first : (qs : List PassValue) → 1 ≤ length qs → All (HadNone b.units) qs → All (λ q. All (λ n. n < w) q.drawn) qs → b.units < w
      first [] h had below = absurd (omega arith)
      first (q ∷ qs) h had below = passed_above q.drawn (had 0 q (omega arith)) (below 0 q (omega arith))

  pub units_once : 1 ≤ b.seats → length ps ≡ b.seats → All (HadNone b.units) ps → EachOnce b.units (map (units_of b.units) ps)
  units_once some_pass long all = record {
    each = λ x. let more = units_below some_pass long all in
        sum_over-map (times x) (units_of b.units) ps ∙ sum_over-same (λ p. times x (units_of b.units p)) (λ p. once_below b.units x * times x p.drawn) ps (λ k d l. times-units b.units x (get_or ps k d).drawn)
        ∙ sum_over-scale (λ p. times x p.drawn) (once_below b.units x) ps ∙ ap (λ n. once_below b.units x * n) (sym (sum_over-map (times x) drawn_of ps) ∙ each_once.each x) ∙ once-inside b.units w x more;
  }

middle : {X : Type 0} (P : X → Type 0) (xs : List X) (y : X) (zs : List X) → All P (xs ++ y ∷ zs) → P y
middle P [] y zs all = all 0 y (omega arith)
middle P (x ∷ xs) y zs all = middle P xs y zs (λ k d l. all (suc k) d (omega arith))

-- where all passes are of a board, so is one that stands among them
pub of_board : (b : BoardValue) (ps : List PassValue) → All (λ p. p.board ≡ b) ps → (before : List PassValue) (p : PassValue) (after : List PassValue) → before ++ p ∷ after ≡ ps → p.board ≡ b
of_board b ps all before p after split = middle (λ (q : PassValue). q.board ≡ b) before p after (subst (λ (xs : List PassValue). All (λ q. q.board ≡ b) xs) (sym split) all)

pub nothing : {X : Type 0} (xs : List X) → length xs ≡ 0 → xs ≡ []
nothing [] e = refl
nothing (x ∷ xs) e = absurd (omega arith)

-- whether or not each pass had None, no unit was drawn twice
pub units_at_most : (units w : ℕ) (ps : List PassValue) → EachOnce w (map drawn_of ps) → (x : ℕ) → sum_over (times x) (map (units_of units) ps) ≤ once_below units x
units_at_most units w ps once x = let e = sum_over-map (times x) (units_of units) ps ∙ sum_over-same (λ p. times x (units_of units p)) (λ p. once_below units x * times x p.drawn) ps (λ k d l. times-units units x (get_or ps k d).drawn)
    ∙ sum_over-scale (λ p. times x p.drawn) (once_below units x) ps ∙ ap (λ n. once_below units x * n) (sym (sum_over-map (times x) drawn_of ps) ∙ once.each x) in
    let m = both_once units w x in omega arith

-- a seat's only hand goes behind the others
pub joined : (f : Hand → PassValue) (hs gs : List Hand) (p : PassValue) (rest : List PassValue) → gs ≡ first_hand gs ∷ [] → f (first_hand gs) ≡ p → map f (hs ++ gs) ++ rest ≡ map f hs ++ p ∷ rest
joined f hs gs p rest one is =
    ap (λ (xs : List Hand). map f (hs ++ xs) ++ rest) one ∙ ap (λ xs. xs ++ rest) (map-append f hs (first_hand gs ∷ [])) ∙ append_assoc (map f hs) (f (first_hand gs) ∷ []) rest
    ∙ ap (λ x. map f hs ++ x ∷ rest) is
