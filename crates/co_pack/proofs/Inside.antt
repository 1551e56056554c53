-- Places of a packing: they lie in their bins and apart, and there are no more bins than documents.
use Rattle.std.proofs.Common.{◌≡◌, ◌≢◌, ℕ, zero, suc, ◌+◌, ◌≤◌, ◌<◌, ◌⊎◌, Bool, true, false, cond, eqb, List, [], ◌∷◌, length, map, take, get_or, refl, sym, ap, subst, ◌∙◌, inl, inr, arith}
use Rattle.std.proofs.lemmas.Bool.{cases_order, eqb-true, eq-eqb}
use Rattle.std.proofs.lemmas.List.{get_or-map, length-map}
use Rattle.std.proofs.lemmas.List.Sums.{sum_by-cons}
use Rattle.co_pack.specs.declared.packing.Place.{Place}
use Rattle.co_pack.specs.Packing.{load, place_at, no_place, IsFirstFit, IsPacked}
use Rattle.co_pack.proofs.Keys.{order_long, order_has}

abbrev share : Place → ℕ → ℕ
share p b = cond (eqb p.bin b) p.length 0

load-cons : (p : Place) (ps : List Place) (b : ℕ) → load (p ∷ ps) b ≡ share p b + load ps b
load-cons p ps b = sum_by-cons (λ (q : Place). cond (eqb q.bin b) q.length 0) p ps

share_own : (p : Place) → share p p.bin ≡ p.length
share_own p = ap (λ t. cond t p.length 0) (eq-eqb p.bin p.bin refl)

-- what was placed before is below what is placed later in its bin
loaded_before : (ps : List Place) (s t : ℕ) → s < t → t < length ps → load (take s ps) (place_at ps s).bin + (place_at ps s).length ≤ load (take t ps) (place_at ps s).bin
loaded_before [] s t below within = absurd (omega arith)
loaded_before (p ∷ ps) s zero below within = absurd (omega arith)
loaded_before (p ∷ ps) zero (suc t) below within = omega (arith, load-cons p (take t ps) p.bin, share_own p)
loaded_before (p ∷ ps) (suc s) (suc t) below within =
    let b = (place_at ps s).bin in
    omega (arith, load-cons p (take s ps) b, load-cons p (take t ps) b, loaded_before ps s t (omega arith) (omega arith))

-- a bin with something in it is that of a place
some_step : (p : Place) (ps : List Place) (b : ℕ) → 0 < load (p ∷ ps) b → (0 < load ps b → (s : ℕ) × (s < length ps) × ((place_at ps s).bin ≡ b))
    → (t : Bool) → eqb p.bin b ≡ t → (s : ℕ) × (s < length (p ∷ ps)) × ((place_at (p ∷ ps) s).bin ≡ b)
some_step p ps b some later true is = (0, omega arith, eqb-true p.bin b is)
some_step p ps b some later false is =
    let none : share p b ≡ 0 = ap (λ t. cond t p.length 0) is in
    let more = later (omega (arith, load-cons p ps b, none)) in
    (suc more.0, omega (arith, more.1), more.2)

some_place : (ps : List Place) (b : ℕ) → 0 < load ps b → (s : ℕ) × (s < length ps) × ((place_at ps s).bin ≡ b)
some_place [] b some = absurd (omega arith)
some_place (p ∷ ps) b some = some_step p ps b some (some_place ps b) (eqb p.bin b) refl

take_place : (ps : List Place) (s t : ℕ) → s < t → place_at (take t ps) s ≡ place_at ps s
take_place [] s zero below = absurd (omega arith)
take_place [] s (suc t) below = refl
take_place (p ∷ ps) s zero below = absurd (omega arith)
take_place (p ∷ ps) zero (suc t) below = refl
take_place (p ∷ ps) (suc s) (suc t) below = take_place ps s t (omega arith)

take_short : (ps : List Place) (t : ℕ) → length (take t ps) ≤ t
take_short [] zero = omega arith
take_short [] (suc t) = omega arith
take_short (p ∷ ps) zero = omega arith
take_short (p ∷ ps) (suc t) = omega (arith, take_short ps t)

module _ (size : ℕ) (ps : List Place) (fit : IsFirstFit size ps) where
  bin_step : (t : ℕ) → t < length ps → ((s : ℕ) → s < t → (place_at ps s).bin ≤ s) → (b : ℕ) → (place_at ps t).bin ≡ b → b ≤ t
  bin_step t within before zero is = omega arith
  bin_step t within before (suc b) is =
      let next = fit t within in
      let some : 0 < load (take t ps) b = omega (arith, next.fits, next.lowest b (omega (arith, is))) in
      let earlier = some_place (take t ps) b some in
      let early : earlier.0 < t = omega (arith, earlier.1, take_short ps t) in
      let bin : (place_at ps earlier.0).bin ≡ b = ap (λ (p : Place). p.bin) (sym (take_place ps earlier.0 t early)) ∙ earlier.2 in
      omega (arith, before earlier.0 early, bin)

  -- the bin of the place t is at most t
  bin_within : (fuel t : ℕ) → t < fuel → t < length ps → (place_at ps t).bin ≤ t
  bin_within zero t less within = absurd (omega arith)
  bin_within (suc fuel) t less within = bin_step t within (λ s below. bin_within fuel s (omega arith) (omega arith)) (place_at ps t).bin refl

  -- two places of one bin lie apart
  behind : (s t : ℕ) → s < t → t < length ps → (place_at ps s).bin ≡ (place_at ps t).bin → (place_at ps s).offset + (place_at ps s).length ≤ (place_at ps t).offset
  behind s t below within same =
      let here = (fit s (omega arith)).offset in
      let there = (fit t within).offset ∙ ap (load (take t ps)) (sym same) in
      omega (arith, loaded_before ps s t below within, here, there)

  inside : (t : ℕ) → t < length ps → (place_at ps t).offset + (place_at ps t).length ≤ size
  inside t within = omega (arith, (fit t within).fits, (fit t within).offset)

module _ (lengths : List ℕ) (size : ℕ) (places : List Place) (bins : ℕ) (packed : IsPacked lengths size places bins) where
  abbrev n : ℕ
  n = length lengths

  abbrev ps : List Place
  ps = map (place_at places) packed.order

  many : length ps ≡ n
  many = length-map packed.order (place_at places) ∙ order_long (length lengths) packed.order packed.permutes

  -- where a document stands in the order
  turn : (i : ℕ) → i < n → (s : ℕ) × (s < length ps) × (place_at ps s ≡ place_at places i)
  turn i below =
      let h = order_has (length lengths) packed.order packed.permutes i below in
      (h.0, omega (arith, h.1, length-map packed.order (place_at places)), get_or-map (place_at places) packed.order h.0 0 no_place h.1 ∙ ap (place_at places) h.2)

  fit : IsFirstFit size ps
  fit = packed.first_fit

  pub bins_within : bins ≤ length lengths
  bins_within =
      let l = packed.count.last in
      let h = turn l.0 (omega (arith, l.1, packed.many)) in
      let bin : (place_at ps h.0).bin ≡ (place_at places l.0).bin = ap (λ (p : Place). p.bin) h.2 in
      omega (arith, bin_within size ps fit (suc h.0) h.0 (omega arith) h.1, bin, l.2, h.1, many)

  pub inside_bin : (i : ℕ) → i < n → (place_at places i).offset + (place_at places i).length ≤ size
  inside_bin i below =
      let h = turn i below in
      subst (λ (p : Place). p.offset + p.length ≤ size) h.2 (inside size ps fit h.0 h.1)

  pub one_bin : (i j : ℕ) → i < n → j < n → i ≢ j → (place_at places i).bin ≡ (place_at places j).bin
      → ((place_at places i).offset + (place_at places i).length ≤ (place_at places j).offset) ⊎ ((place_at places j).offset + (place_at places j).length ≤ (place_at places i).offset)
  one_bin i j in_i in_j differ same =
      let h = order_has (length lengths) packed.order packed.permutes i in_i in
      let k = order_has (length lengths) packed.order packed.permutes j in_j in
      let long = length-map packed.order (place_at places) in
      let at_i : place_at ps h.0 ≡ place_at places i = get_or-map (place_at places) packed.order h.0 0 no_place h.1 ∙ ap (place_at places) h.2 in
      let at_j : place_at ps k.0 ≡ place_at places j = get_or-map (place_at places) packed.order k.0 0 no_place k.1 ∙ ap (place_at places) k.2 in
      let bin : (place_at ps h.0).bin ≡ (place_at ps k.0).bin = ap (λ (p : Place). p.bin) at_i ∙ same ∙ ap (λ (p : Place). p.bin) (sym at_j) in
      elim (cases_order h.0 k.0) [
        | inl equal ↦ absurd (differ (sym h.2 ∙ ap (λ (s : ℕ). get_or packed.order s 0) equal ∙ k.2))
        | inr (inl before) ↦ inl (subst (λ (p : Place). (place_at places i).offset + (place_at places i).length ≤ p.offset) at_j (subst (λ (p : Place). p.offset + p.length ≤ (place_at ps k.0).offset) at_i (behind size ps fit h.0 k.0 before (omega (arith, k.1)) bin)))
        | inr (inr after) ↦ inr (subst (λ (p : Place). (place_at places j).offset + (place_at places j).length ≤ p.offset) at_i (subst (λ (p : Place). p.offset + p.length ≤ (place_at ps h.0).offset) at_j (behind size ps fit k.0 h.0 after (omega (arith, h.1)) (sym bin))))
      ]
