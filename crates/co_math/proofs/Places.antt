-- Writes to the places of a substitution.
use Rattle.std.proofs.Common.{◌≡◌, ℕ, ◌+◌, ◌*◌, ◌-◌, ◌%◌, ◌/◌, ◌<◌, ◌≤◌, ◌≢◌, sym, ap, subst, ◌∙◌, ⊎_elim, arith, ℤ, pos, ◌+ℤ◌, ◌*ℤ◌, List, length, get_or, set}
use Rattle.std.proofs.lemmas.Bool.{cases_lt, cases_eq}
use Rattle.std.proofs.lemmas.List.{length-set, get_or-set_other, get_or-set_same}
use Rattle.std.proofs.Math.Nat.{mod-lt, div-add-mod'}
use lib.IntN.{neg_ℤ}
use Rattle.co_math.specs.Residues.{residue, Congruent}
use Rattle.co_math.specs.Polynomials.{spread, IsWrapped}
use Rattle.co_math.proofs.Integers.{linear, expand, one-mul}
use Rattle.co_math.proofs.Residues.{cong-trans, cong-sym, cong-add, cong-mul, cong-neg, cong-refl, cong_from, residue-is, residue-lt, residue-same, residue_small, congruent_from_residues}
use Rattle.co_math.proofs.Reduced.{remainder-is}
use Rattle.co_math.proofs.Powers.{mod-is}
use Rattle.co_math.proofs.Periods.{period-congruent}
use Rattle.co_math.proofs.Substitutions.{wrapped_period}
use Rattle.co_math.proofs.Spreads.{spread-low, spread-IsWrapped}
use Rattle.co_math.proofs.Inverses.{odd_has_inverse}
use Rattle.co_math.proofs.Degrees.{IsPowerOfTwo}
use Rattle.co_math.specs.Coefficients.{coefficients, AreBelow}
use Rattle.co_math.proofs.Terms.{coefficient-low}

-- two polynomials agree at z where their coefficients agree at its place
pub spread-agree : (n : ℕ) (c d : ℕ → ℤ) (z : ℤ) → 0 < n → c (residue n z) ≡ d (residue n z) → spread n c z ≡ spread n d z
spread-agree n c d z p e =
    let r = residue (n + n) z in
    let l = residue-lt (n + n) z (omega arith) in
    let back : Congruent (n + n) z (pos r) = cong-sym (n + n) (residue-is (n + n) z (omega arith)) in
    let at : (f : ℕ → ℤ) → spread n f z ≡ spread n f (pos r) = λ f. period-congruent (n + n) (spread n f) (wrapped_period n (spread n f) (spread-IsWrapped n f p)) back in
    let narrow : Congruent n z (pos r) = record { times = back.times +ℤ back.times; same = back.same ∙ ap (λ y. pos r +ℤ y) (shape back.times) } in
    ⊎_elim
    (λ u. let q : residue n z ≡ r = residue-same n z (pos r) p narrow ∙ residue_small n r u in
    at c ∙ spread-low n c r u ∙ sym (ap c q) ∙ e ∙ ap d q ∙ sym (spread-low n d r u) ∙ sym (at d))
    (λ u.
    let q : residue n z ≡ r - n = residue-same n z (pos (r - n)) p (cong-trans n narrow (record { times = pos 1; same = omega (arith, linear) })) ∙ residue_small n (r - n) (omega arith) in
    let over : pos r ≡ pos (r - n) +ℤ pos n = omega (arith, linear) in
    let high : (f : ℕ → ℤ) → spread n f (pos r) ≡ neg_ℤ (f (r - n)) = λ f. ap (spread n f) over ∙ spread-IsWrapped n f p (pos (r - n)) ∙ ap neg_ℤ (spread-low n f (r - n) (omega arith)) in
    at c ∙ high c ∙ ap neg_ℤ (sym (ap c q) ∙ e ∙ ap d q) ∙ sym (high d) ∙ sym (at d))
    (cases_lt r n)
  where
    shape : (t : ℤ) → t *ℤ pos (n + n) ≡ (t +ℤ t) *ℤ pos n
    shape t = let two : pos (n + n) ≡ pos n +ℤ pos n = omega (arith, linear) in ap (λ y. t *ℤ y) two ∙ simp expand

-- a write elsewhere
pub coefficient-set_other : (xs : List ℕ) (p v : ℕ) (z : ℤ) → 0 < length xs → residue (length xs) z ≢ p → coefficients (set xs p v) z ≡ coefficients xs z
unfolding coefficients
coefficient-set_other xs p v z l ne =
    ap (λ k. spread k (λ i. pos (get_or (set xs p v) i 0)) z) (length-set xs p v)
    ∙ spread-agree (length xs) (λ i. pos (get_or (set xs p v) i 0)) (λ i. pos (get_or xs i 0)) z l (ap pos (get_or-set_other xs p (residue (length xs) z) v 0 ne))

-- a write at the place of z, in its first or second half turn
pub coefficient-set_here : (xs : List ℕ) (p v : ℕ) → p < length xs → coefficients (set xs p v) (pos p) ≡ pos v
coefficient-set_here xs p v l = coefficient-low (set xs p v) p (omega (arith, length-set xs p v)) ∙ ap pos (get_or-set_same xs p v 0 l)

pub coefficients-IsWrapped : (xs : List ℕ) → 0 < length xs → IsWrapped (length xs) (coefficients xs)
unfolding coefficients
coefficients-IsWrapped xs z = spread-IsWrapped (length xs) (λ i. pos (get_or xs i 0)) z

pub coefficient-congruent : (xs : List ℕ) (z : ℤ) (r : ℕ) → 0 < length xs → Congruent (length xs + length xs) z (pos r) → coefficients xs z ≡ coefficients xs (pos r)
coefficient-congruent xs z r p c = period-congruent (length xs + length xs) (coefficients xs) (wrapped_period (length xs) (coefficients xs) (coefficients-IsWrapped xs p)) c

-- different places of the source go to different places
pub apart : (n g i j : ℕ) → IsPowerOfTwo n → g % 2 ≡ 1 → i < n → j < n → residue n (pos g *ℤ pos i) ≡ residue n (pos g *ℤ pos j) → i ≡ j
apart n g i j t o u v e =
    let z : 0 < n = omega arith in
    let odd : pos g ≡ pos (g / 2) +ℤ pos (g / 2) +ℤ pos 1 = omega (arith, linear, div-add-mod' g 2) in
    let k = odd_has_inverse t.exponent (pos g) (pos (g / 2)) odd in
    let inv : Congruent n (k.by *ℤ pos g) (pos 1) = subst (λ (q : ℕ). Congruent q (k.by *ℤ pos g) (pos 1)) (sym t.is) k.is in
    let c = congruent_from_residues n (pos g *ℤ pos i) (pos g *ℤ pos j) z e in
    let back : (x : ℕ) → Congruent n (k.by *ℤ (pos g *ℤ pos x)) (pos x) = λ x. cong-trans n (cong_from n (turn k.by (pos g) (pos x))) (cong-trans n (cong-mul n inv (cong-refl n (pos x))) (cong_from n (one-mul (pos x)))) in
    sym (residue_small n i u) ∙ residue-same n (pos i) (pos j) z (cong-trans n (cong-sym n (back i)) (cong-trans n (cong-mul n (cong-refl n k.by) c) (back j))) ∙ residue_small n j v
  where
    turn : (h g x : ℤ) → h *ℤ (g *ℤ x) ≡ h *ℤ g *ℤ x
    turn h g x = simp expand

-- the first i places have been written
pub record ArePlaced (m g i : ℕ) (a into : List ℕ) : Type 0 where
  pub places : (j : ℕ) → j < i → Congruent m (coefficients into (pos g *ℤ pos j)) (coefficients a (pos j))

module _ (m g i : ℕ) (a into : List ℕ) (len : length into ≡ length a) (t : IsPowerOfTwo (length a)) (odd : g % 2 ≡ 1) (u : i < length a) (f : ArePlaced m g i a into) where
  -- where g * i is place modulo 2n
  turns : (place : ℕ) → place ≡ g * i % (2 * length a) → Congruent (length a + length a) (pos g *ℤ pos i) (pos place)
  turns place e = subst (λ (k : ℕ). Congruent k (pos (g * i)) (pos place)) two (cong-sym (2 * length a) (cong-trans (2 * length a) (cong_from (2 * length a) (ap pos e)) (mod-is (2 * length a) (g * i) (omega arith))))
    where
      two : 2 * length a ≡ length a + length a
      two = omega arith

  kept_places : (p v : ℕ) → residue (length into) (pos g *ℤ pos i) ≡ p → (j : ℕ) → j < i → Congruent m (coefficients (set into p v) (pos g *ℤ pos j)) (coefficients a (pos j))
  kept_places p v e j l = cong-trans m (cong_from m (coefficient-set_other into p v (pos g *ℤ pos j) (omega arith)
      (λ q. let same : j ≡ i = apart (length a) g j i t odd (omega arith) u (subst (λ (k : ℕ). residue k (pos g *ℤ pos j) ≡ residue k (pos g *ℤ pos i)) len (q ∙ sym e)) in absurd (omega arith))))
      (f.places j l)

  narrower : {x y : ℤ} → Congruent (length a + length a) x y → Congruent (length a) x y
  narrower {x} {y} c = record { times = c.times +ℤ c.times; same = c.same ∙ ap (λ k. y +ℤ k) (shape c.times) }
    where
      shape : (t : ℤ) → t *ℤ pos (length a + length a) ≡ (t +ℤ t) *ℤ pos (length a)
      shape t = let two : pos (length a + length a) ≡ pos (length a) +ℤ pos (length a) = omega (arith, linear) in ap (λ y. t *ℤ y) two ∙ simp expand

  -- what was written at the place p, which is that of i up to a half turn
  placed_all : (p v : ℕ) → Congruent (length a) (pos g *ℤ pos i) (pos p) → p < length a → Congruent m (coefficients (set into p v) (pos g *ℤ pos i)) (coefficients a (pos i)) → ArePlaced m g (i + 1) a (set into p v)
  placed_all p v c l h = record {
    places = λ j b. ⊎_elim
        (λ q. kept_places p v (ap (λ k. residue k (pos g *ℤ pos i)) len ∙ residue-same (length a) (pos g *ℤ pos i) (pos p) (omega arith) c ∙ residue_small (length a) p l) j q)
        (λ q. let e : i ≡ j = omega arith in subst (λ (k : ℕ). Congruent m (coefficients (set into p v) (pos g *ℤ pos k)) (coefficients a (pos k))) e h)
        (cases_lt j i);
  }

  pub placed_low : (place v : ℕ) → place ≡ g * i % (2 * length a) → place < length a → v ≡ get_or a i 0 → ArePlaced m g (i + 1) a (set into place v)
  placed_low place v e l s =
      let c = turns place e in
      placed_all place v (narrower c) l
      (cong_from m (coefficient-congruent (set into place v) (pos g *ℤ pos i) place (omega (arith, length-set into place v)) (subst (λ (k : ℕ). Congruent (k + k) (pos g *ℤ pos i) (pos place)) (sym (length-set into place v ∙ len)) c)
      ∙ coefficient-set_here into place v (omega arith) ∙ ap pos s ∙ sym (coefficient-low a i u)))

  pub placed_high : (place v : ℕ) → place ≡ g * i % (2 * length a) → length a ≤ place → Congruent m (pos v) (neg_ℤ (pos (get_or a i 0))) → ArePlaced m g (i + 1) a (set into (place - length a) v)
  placed_high place v e l s =
      let n = length a in
      let p = place - n in
      let ys = set into p v in
      let c = turns place e in
      let b : place < 2 * n = subst (λ (k : ℕ). k < 2 * n) (sym e) (mod-lt (g * i) (omega arith)) in
      let len₂ : length ys ≡ n = length-set into p v ∙ len in
      let over : pos place ≡ pos p +ℤ pos (length ys) = omega (arith, linear) in
      placed_all p v (cong-trans n (narrower c) (record { times = pos 1; same = omega (arith, linear) })) (omega arith)
      (cong-trans m (cong_from m (coefficient-congruent ys (pos g *ℤ pos i) place (omega arith) (subst (λ (k : ℕ). Congruent (k + k) (pos g *ℤ pos i) (pos place)) (sym len₂) c)
      ∙ ap (coefficients ys) over ∙ coefficients-IsWrapped ys (omega arith) (pos p) ∙ ap neg_ℤ (coefficient-set_here into p v (omega arith))))
      (cong-trans m (cong-neg m s) (cong_from m (twice_neg (pos (get_or a i 0)) ∙ sym (coefficient-low a i u)))))
    where
      twice_neg : (y : ℤ) → neg_ℤ (neg_ℤ y) ≡ y
      twice_neg y = omega (arith, linear)

-- the place of i + 1, from that of i
pub place_next : (g i t p r : ℕ) → 0 < t → p ≡ g * i % t → r ≡ residue t (pos p +ℤ pos g) → r ≡ g * (i + 1) % t
place_next g i t p r z e f =
    f ∙ residue-same t (pos p +ℤ pos g) (pos (g * (i + 1))) z
    (cong-trans t (cong-add t (cong-trans t (cong_from t (ap pos e)) (mod-is t (g * i) z)) (cong-refl t (pos g))) (cong_from t (ap pos (omega arith))))
    ∙ sym (remainder-is t (g * (i + 1)))

-- what is below m stays so
pub set_below : (m i x : ℕ) (xs : List ℕ) → AreBelow m xs → x < m → AreBelow m (set xs i x)
set_below m i x xs h l k u = ⊎_elim
    (λ e. subst (λ (v : ℕ). v < m) (sym (ap (λ j. get_or (set xs i x) j 0) e ∙ get_or-set_same xs i x 0 (omega (arith, length-set xs i x)))) l)
    (λ ne. subst (λ (v : ℕ). v < m) (sym (get_or-set_other xs i k x 0 ne)) (h k (omega (arith, length-set xs i x))))
    (cases_eq k i)
