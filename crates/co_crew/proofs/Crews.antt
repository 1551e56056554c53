-- What workers have together, worker by worker.
use Rattle.std.proofs.Common.{◌≡◌, ℕ, zero, suc, ◌+◌, Bool, true, false, List, [], ◌∷◌, ◌++◌, map, All, sym, subst, refl, ap, ◌∙◌, arith, append_assoc}
use Rattle.std.proofs.lemmas.List.{append-nil}
use Rattle.std.proofs.lemmas.List.Elements.{All-append}
use Rattle.std.specs.Prelude.{◌&&◌, flat_map, nat_eq, if◌then◌else◌}
use mathlib.Core.Bool.{false≢true}
use Rattle.co_board.specs.Once.{sum_over, sum_below, EachOnce}
use Rattle.co_board.specs.Passes.{PassValue, HadNone, drawn_of, units_of}
use Rattle.co_board.proofs.Sums.{sum_over-append, sum_over-snoc, sum_over-map}
use Rattle.co_board.proofs.Counts.{once-sum_below, once-sum_below-le}
use Rattle.co_board.proofs.Closing.{units_at_most}
use Rattle.co_switch.specs.Steps.{raised, HasRisen}
use Rattle.co_switch.proofs.Rising.{raised-zero, raised-up}
use Rattle.co_crew.proofs.Parts.{raised-part, raised-both}
use Rattle.co_crew.specs.Crew.{IsWhole, IsRun, IsTally}

pub both_true : (a b : Bool) → (a && b) ≡ true → (a ≡ true) × (b ≡ true)
both_true true true e = (refl, refl)
both_true true false e = absurd (false≢true e)
both_true false b e = absurd (false≢true e)

flat-snoc : (f : PassValue → List ℕ) (ps : List PassValue) (p : PassValue) → flat_map f (ps ++ p ∷ []) ≡ flat_map f ps ++ f p
flat-snoc f [] p = append-nil (f p)
flat-snoc f (q ∷ qs) p = ap (λ xs. f q ++ xs) (flat-snoc f qs p) ∙ sym (append_assoc (f q) (flat_map f qs) (f p))

sum_over-flat : (g : ℕ → ℕ) (f : PassValue → List ℕ) (ps : List PassValue) → sum_over g (flat_map f ps) ≡ sum_over (sum_over g) (map f ps)
sum_over-flat g f [] = refl
sum_over-flat g f (p ∷ ps) = sum_over-append g (f p) (flat_map f ps) ∙ ap (λ n. sum_over g (f p) + n) (sum_over-flat g f ps)

module _ {S : Type 0} (is_sum : List ℕ → S → Type 0) (units : ℕ) (cost : ℕ → ℕ) (start : ℕ) where
  pub tally_none : (s : S) → is_sum [] s → IsTally is_sum units cost start [] s start true
  tally_none s none = record {
    passed = λ _ k d l. absurd (omega arith);
    sums = λ _. none;
    steps_are = λ _. sym (raised-zero start);
    most = let n = raised-zero start in (omega arith, omega arith);
  }

  only : (q : PassValue) → HadNone units q → All (HadNone units) (q ∷ [])
  only q h zero d l = h
  only q h (suc k) d l = absurd (omega arith)

  pub tally_more : (ps : List PassValue) (sum : S) (steps : ℕ) (done : Bool) → IsTally is_sum units cost start ps sum steps done → (p : PassValue) (own merged : S) (taken : ℕ) (all : Bool) → IsRun is_sum units cost p.drawn own taken all
      → (done ≡ true → all ≡ true → (us vs : List ℕ) → is_sum us sum → is_sum vs own → is_sum (us ++ vs) merged)
      → IsTally is_sum units cost start (ps ++ p ∷ []) merged (raised steps taken) (done && all)
  tally_more ps sum steps done t p own merged taken all r joins = record {
    passed = λ e. let b = both_true done all e in All-append (HadNone units) ps (p ∷ []) (t.passed b.0) (only p (r.passed b.1));
    sums = λ e. let b = both_true done all e in subst (λ us. is_sum us merged) (sym (flat-snoc (units_of units) ps p)) (joins b.0 b.1 (flat_map (units_of units) ps) (units_of units p) (t.sums b.0) (r.sums b.1));
    steps_are = λ e. let b = both_true done all e in let f : PassValue → ℕ = λ q. sum_over cost (units_of units q) in
        ap (λ z. raised z taken) (t.steps_are b.0) ∙ ap (raised (raised start (sum_over f ps))) (r.steps_are b.1) ∙ raised-part start (sum_over f ps) (f p) ∙ ap (raised start) (sym (sum_over-snoc f ps p));
    most = let f : PassValue → ℕ = λ q. sum_over cost (units_of units q) in let m = t.most in let up = raised-up steps taken in let le = raised-both steps (raised start (sum_over f ps)) taken (raised 0 (f p)) m.1 r.most in
        let e = raised-part start (sum_over f ps) (f p) ∙ ap (raised start) (sym (sum_over-snoc f ps p)) in (omega arith, omega arith);
  }

  -- where the passes have each unit once, the sum is that of all units
  pub tally_all : (ps : List PassValue) (sum : S) (steps : ℕ) → IsTally is_sum units cost start ps sum steps true → (All (HadNone units) ps → EachOnce units (map (units_of units) ps))
      → IsWhole is_sum units sum × (steps ≡ raised start (sum_below units cost))
  tally_all ps sum steps t close = let once = close (t.passed refl) in (
    (flat_map (units_of units) ps, record { once = λ x. sum_over-flat (λ y. if nat_eq y x then 1 else 0) (units_of units) ps ∙ once.each x }, t.sums refl),
    t.steps_are refl ∙ ap (raised start) (sym (sum_over-map (sum_over cost) (units_of units) ps) ∙ once-sum_below cost units (map (units_of units) ps) once),
  )

  pub tally_most : (w : ℕ) (ps : List PassValue) (sum : S) (steps : ℕ) (done : Bool) → IsTally is_sum units cost start ps sum steps done → EachOnce w (map drawn_of ps)
      → HasRisen start (sum_below units cost) steps
  tally_most w ps sum steps done t once = let le = once-sum_below-le cost units (map (units_of units) ps) (units_at_most units w ps once) in let e = sum_over-map (sum_over cost) (units_of units) ps in
      let m = t.most in let r = raised-both start start (sum_over (λ p. sum_over cost (units_of units p)) ps) (sum_below units cost) (omega arith) (omega arith) in record { at_least = omega arith; at_most = omega arith }
