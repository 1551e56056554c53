-- The halves of a level, as they are taken out of their places.
use Rattle.std.proofs.Common.{◌≡◌, ℕ, suc, ◌+◌, ◌<◌, refl, sym, ap, subst, ◌∙◌, arith, List, [], ◌∷◌, ◌++◌, length, length-append, get_or, take, map}
use Rattle.std.specs.Prelude.{Result, Ok, IfOk, OnOk}
use Rattle.std.proofs.lemmas.List.{map-append, take_more, take_all}
use Rattle.co_bfv.specs.Ciphertexts.{Ciphertext}
use Rattle.co_bfv.specs.Totals.{no_ciphertext, ciphertext_at}
use Rattle.co_switch.specs.Keys.{Key}
use Rattle.co_switch.specs.Steps.{raised, HasRisen}
use Rattle.co_switch.proofs.Rising.{raised-zero, raised-raised}
use Rattle.co_pir.specs.Expansions.{even_half, odd_half, AreHalves}
use Rattle.co_pir.proofs.Rising.{turn_ended}

-- one step, counted from none on
pub one_step : (before now : ℕ) → before ≡ 0 → now ≡ raised before 1 → now ≡ 1
unfolding raised
one_step before now e f = omega arith

-- places X with a pair and its steps; a level cs, doubled by a key from a count of steps on
module _ {X E : Type 0} (pair : X → Result (Ciphertext × Ciphertext) E) (count : X → ℕ) (e : ℕ) (key : Key) (cs : List Ciphertext) (before : ℕ) where
  -- the evens and odds were taken, and the rest is still in its places
  pub record IsTaking (rest : List X) (evens odds : List Ciphertext) (now : ℕ) : Type 0 where
    pub whole : length evens + length rest ≡ length cs
    pub each : (i : ℕ) (d : X) → i < length rest → AreHalves e key (ciphertext_at cs (length evens + i)) (pair (get_or rest i d)) (count (get_or rest i d))
    pub evens_are : evens ≡ map (even_half key) (take (length evens) cs)
    pub odds_are : odds ≡ map (odd_half e key) (take (length evens) cs)
    pub steps_are : now ≡ raised before (length evens)

  pub taking_none : (xs : List X) (evens odds : List Ciphertext) → evens ≡ [] → odds ≡ [] → length xs ≡ length cs → ((i : ℕ) (d : X) → i < length cs → AreHalves e key (ciphertext_at cs i) (pair (get_or xs i d)) (count (get_or xs i d)))
      → IsTaking xs evens odds before
  taking_none xs evens odds f g len each =
      subst (λ (ys : List Ciphertext). IsTaking xs ys odds before) (sym f)
      (subst (λ (ys : List Ciphertext). IsTaking xs [] ys before) (sym g)
      (record {
        whole = omega (arith, len);
        each = λ i d l. subst (λ (k : ℕ). AreHalves e key (ciphertext_at cs k) (pair (get_or xs i d)) (count (get_or xs i d))) (behind i) (each i d (omega (arith, len)));
        evens_are = refl;
        odds_are = refl;
        steps_are = sym (raised-zero before);
      }))
    where
      behind : (i : ℕ) → i ≡ length {A = Ciphertext} [] + i
      behind i = omega arith

  -- the next place
  module _ (xs rest : List X) (x : X) (evens odds : List Ciphertext) (now : ℕ) (first : xs ≡ x ∷ rest) (h : IsTaking xs evens odds now) where
    here : IsTaking (x ∷ rest) evens odds now
    here = subst (λ (ys : List X). IsTaking ys evens odds now) first h

    low : length evens < length cs
    low = omega (arith, here.whole)

    next : AreHalves e key (ciphertext_at cs (length evens)) (pair x) (count x)
    next =
        let at : length evens + 0 ≡ length evens = omega arith in
        subst (λ (k : ℕ). AreHalves e key (ciphertext_at cs k) (pair x) (count x)) at (here.each 0 x (omega arith))

    module _ (even odd : Ciphertext) (then : ℕ) (found : pair x ≡ Ok (even, odd)) (step : then ≡ raised now (count x)) where
      once : then ≡ raised now 1
      once = step ∙ ap (raised now) (subst (λ (r : Result (Ciphertext × Ciphertext) E). OnOk r (count x ≡ 1)) found next.step)

      -- the steps behind it
      pub taking_risen : HasRisen before (length cs) then
      taking_risen = turn_ended before now then (length evens) (length cs) h.steps_are once low

      pub taking_next : (evens_then odds_then : List Ciphertext) → evens_then ≡ evens ++ even ∷ [] → odds_then ≡ odds ++ odd ∷ [] → IsTaking rest evens_then odds_then then
      taking_next evens_then odds_then u v =
          let k = length evens in
          let a : even ≡ even_half key (ciphertext_at cs k) = subst (λ (r : Result (Ciphertext × Ciphertext) E). IfOk r (λ p. p.0 ≡ even_half key (ciphertext_at cs k))) found next.even in
          let b : odd ≡ odd_half e key (ciphertext_at cs k) = subst (λ (r : Result (Ciphertext × Ciphertext) E). IfOk r (λ p. p.1 ≡ odd_half e key (ciphertext_at cs k))) found next.odd in
          let len : length evens_then ≡ k + 1 = ap length u ∙ length-append evens (even ∷ []) in
          record {
            whole = omega (arith, here.whole, len);
            each = λ i d l.
                let at : k + suc i ≡ length evens_then + i = omega (arith, len) in
                subst (λ (j : ℕ). AreHalves e key (ciphertext_at cs j) (pair (get_or rest i d)) (count (get_or rest i d))) at (here.each (suc i) d (omega arith));
            evens_are = u ∙ (λ i. here.evens_are i ++ a i ∷ []) ∙ one_more (even_half key) ∙ ap (λ (j : ℕ). map (even_half key) (take j cs)) (sym len);
            odds_are = v ∙ (λ i. here.odds_are i ++ b i ∷ []) ∙ one_more (odd_half e key) ∙ ap (λ (j : ℕ). map (odd_half e key) (take j cs)) (sym len);
            steps_are = once ∙ ap (λ (j : ℕ). raised j 1) here.steps_are ∙ raised-raised before k 1 ∙ ap (raised before) (sym len);
          }
        where
          one_more : (f : Ciphertext → Ciphertext) → map f (take (length evens) cs) ++ f (ciphertext_at cs (length evens)) ∷ [] ≡ map f (take (length evens + 1) cs)
          one_more f = sym (map-append f (take (length evens) cs) (ciphertext_at cs (length evens) ∷ [])) ∙ ap (map f) (sym (take_more cs (length evens) no_ciphertext low))

  -- all are taken
  pub taking_all : (xs : List X) (evens odds : List Ciphertext) (now : ℕ) → xs ≡ [] → IsTaking xs evens odds now → (evens ≡ map (even_half key) cs) × (odds ≡ map (odd_half e key) cs)
  taking_all xs evens odds now f h =
      let all : length evens ≡ length cs = omega (arith, h.whole, ap length f) in
      let whole : take (length evens) cs ≡ cs = take_all (length evens) cs (omega arith) in
      (h.evens_are ∙ ap (map (even_half key)) whole, h.odds_are ∙ ap (map (odd_half e key)) whole)
