-- X^g for X: lists, and the two forms of functions, at every integer place.
use Rattle.std.proofs.Common.{◌≡◌, ℕ, suc, ◌+◌, ◌%◌, ◌/◌, ◌<◌, ◌^◌, sym, ap, subst, ◌∙◌, ⊎_elim, ◌⊎◌, inl, inr, arith, ℤ, pos, ◌+ℤ◌, ◌-ℤ◌, ◌*ℤ◌, List, length}
use Rattle.std.proofs.lemmas.Bool.{cases_eq}
use Rattle.std.proofs.Math.Nat.{div-add-mod'}
use lib.IntN.{neg_ℤ, neg_ℤ-neg_ℤ}
use Rattle.co_math.specs.Residues.{residue, Congruent}
use Rattle.co_math.specs.Degrees.{IsDegree}
use Rattle.co_math.specs.Polynomials.{IsWrapped, product, substituted, substitution, unit}
use Rattle.co_math.specs.Coefficients.{coefficients, AreResidues, residues_of, IsSubstituted}
use Rattle.co_math.proofs.Integers.{linear, expand, one-mul}
use Rattle.co_math.proofs.Residues.{cong-refl, cong_from, cong-sym, cong-trans, cong-add, cong-neg, cong-mul, residue-is, residue-lt}
use Rattle.co_math.proofs.Reduced.{reduced_as}
use Rattle.co_math.proofs.Totals.{total-same}
use Rattle.co_math.proofs.Periods.{IsPeriodic, period-congruent, total-affine}
use Rattle.co_math.proofs.Polynomials.{product_comm}
use Rattle.co_math.proofs.Spreads.{unit-IsWrapped, product-unit}
use Rattle.co_math.proofs.Inverses.{odd_has_inverse}
use Rattle.co_math.proofs.Substitutions.{wrapped_period, substituted-IsWrapped}
use Rattle.co_math.proofs.Degrees.{IsPowerOfTwo, power_of_two, degree_positive}
use Rattle.co_math.proofs.Places.{coefficients-IsWrapped}
use Rattle.co_math.proofs.Terms.{coefficient-low}
use Rattle.co_math.proofs.Agreements.{Agree, wrapped_agree}
use Rattle.co_math.proofs.Residue_lists.{residues_of-is}
use Rattle.co_math.proofs.Orders.{IsOdd}

-- the inverse of g modulo 2n, which is odd as g is
pub record Inverse (n g : ℕ) : Type 0 where
  pub by : ℤ
  pub half : ℤ
  pub odd : by ≡ pos 2 *ℤ half +ℤ pos 1
  pub is : Congruent (n + n) (by *ℤ pos g) (pos 1)

record IsEven (x : ℤ) : Type 0 where
  pub half : ℤ
  pub is : x ≡ half +ℤ half

odd_or_even : (h : ℤ) → IsOdd h ⊎ IsEven h
odd_or_even h =
    let c = cong-sym 2 (residue-is 2 h (omega arith)) in
    let l : residue 2 h < 2 = residue-lt 2 h (omega arith) in
    ⊎_elim
    (λ e. inr (record { half = c.times; is = omega (arith, linear, c.same, e) }))
    (λ ne. inl (record { half = c.times; is = omega (arith, linear, c.same, l, ne) }))
    (cases_eq (residue 2 h) 0)

-- what has an inverse modulo an even number is odd
inverse-odd : (n : ℕ) (h g : ℤ) → Congruent (n + n) (h *ℤ g) (pos 1) → IsOdd h
inverse-odd n h g c = ⊎_elim (λ o. o) (λ e. absurd (clash (e.half *ℤ g) (c.times *ℤ pos n) (sym (twice e.half g) ∙ ap (λ x. x *ℤ g) (sym e.is) ∙ c.same ∙ ap (λ x. pos 1 +ℤ x) (spread_out c.times n)))) (odd_or_even h)
  where
    twice : (v g : ℤ) → (v +ℤ v) *ℤ g ≡ v *ℤ g +ℤ v *ℤ g
    twice v g = simp expand

    spread_out : (t : ℤ) (n : ℕ) → t *ℤ pos (n + n) ≡ t *ℤ pos n +ℤ t *ℤ pos n
    spread_out t n = let two : pos (n + n) ≡ pos n +ℤ pos n = omega (arith, linear) in ap (λ y. t *ℤ y) two ∙ simp expand

    clash : (a b : ℤ) → a +ℤ a ≡ pos 1 +ℤ (b +ℤ b) → ⊥
    clash a b e = omega (arith, linear, e)

pub odd_half : (g : ℕ) → g % 2 ≡ 1 → pos g ≡ pos (g / 2) +ℤ pos (g / 2) +ℤ pos 1
odd_half g o = omega (arith, linear, div-add-mod' g 2)

-- an odd number has an odd inverse modulo twice a power of two
pub odd_inverse : (n g : ℕ) → IsPowerOfTwo n → g % 2 ≡ 1 → Inverse n g
odd_inverse n g t o =
    let double : 2 ^ suc (suc t.exponent) ≡ n + n = omega (arith, t.is) in
    let i = odd_has_inverse (suc t.exponent) (pos g) (pos (g / 2)) (odd_half g o) in
    let c : Congruent (n + n) (i.by *ℤ pos g) (pos 1) = subst (λ (k : ℕ). Congruent k (i.by *ℤ pos g) (pos 1)) double i.is in
    let h = inverse-odd n i.by (pos g) c in
    record { by = i.by; half = h.half; odd = omega (arith, linear, h.is); is = c }

-- the coefficient at g * z of the substituted is that at z
pub substituted_at : (m g : ℕ) (xs ys : List ℕ) → 0 < length xs → g % 2 ≡ 1 → IsSubstituted m g xs ys → (z : ℤ) → Congruent m (coefficients ys (pos g *ℤ z)) (coefficients xs z)
unfolding substituted
substituted_at m g xs ys p o s =
    wrapped_agree m (length xs) (substituted (pos g) (coefficients ys)) (coefficients xs) p
    (substituted-IsWrapped (length xs) (pos g) (pos (g / 2)) (coefficients ys) (subst (λ (n : ℕ). IsWrapped n (coefficients ys)) s.len (coefficients-IsWrapped ys (omega (arith, s.len)))) (omega (arith, linear, odd_half g o)))
    (coefficients-IsWrapped xs p)
    (λ k l. s.at k l)

-- a list that is another with X^g for X agrees with the function that is, for any inverse h of g
pub substituted_agree : (m g : ℕ) (h : ℤ) (xs ys : List ℕ) → 0 < length xs → g % 2 ≡ 1 → Congruent (length xs + length xs) (h *ℤ pos g) (pos 1) → IsSubstituted m g xs ys → Agree m (coefficients ys) (substituted h (coefficients xs))
unfolding substituted
substituted_agree m g h xs ys p o c s k =
    let n = length xs in
    let turn : Congruent (n + n) k (pos g *ℤ (h *ℤ k)) =
    cong-trans (n + n) (cong_from (n + n) (sym (one-mul k))) (cong-trans (n + n) (cong-mul (n + n) (cong-sym (n + n) c) (cong-refl (n + n) k)) (cong_from (n + n) (turned h (pos g) k))) in
    let w : IsWrapped n (coefficients ys) = subst (λ (n : ℕ). IsWrapped n (coefficients ys)) s.len (coefficients-IsWrapped ys (omega (arith, s.len))) in
    cong-trans m (cong_from m (period-congruent (n + n) (coefficients ys) (wrapped_period n (coefficients ys) w) turn)) (substituted_at m g xs ys p o s (h *ℤ k))
  where
    turned : (h g k : ℤ) → h *ℤ g *ℤ k ≡ g *ℤ (h *ℤ k)
    turned h g k = simp expand

-- a list that is another with X^g for X has the residues of the function that is
pub substituted_residues : (m g : ℕ) (h : ℤ) (xs ys : List ℕ) → 0 < length xs → g % 2 ≡ 1 → Congruent (length xs + length xs) (h *ℤ pos g) (pos 1) → IsSubstituted m g xs ys → AreResidues m (length xs) (substituted h (coefficients xs)) ys
substituted_residues m g h xs ys p o c s = record {
  len = s.len;
  each = λ k l.
      reduced_as m _ (substituted h (coefficients xs) (pos k)) (s.below k (omega (arith, s.len)))
      (cong-trans m (cong_from m (sym (coefficient-low ys k (omega (arith, s.len))))) (substituted_agree m g h xs ys p o c s (pos k)));
}

pub inverse_of : (n g : ℕ) → IsDegree n → g % 2 ≡ 1 → Inverse n g
inverse_of n g d odd = odd_inverse n g (power_of_two n d) odd

-- ---- the sum form, by the inverse

narrower : (n : ℕ) {x y : ℤ} → Congruent (n + n) x y → Congruent n x y
narrower n {x} {y} c = record { times = c.times +ℤ c.times; same = c.same ∙ ap (λ k. y +ℤ k) (shape c.times) }
  where
    shape : (t : ℤ) → t *ℤ pos (n + n) ≡ (t +ℤ t) *ℤ pos n
    shape t = let two : pos (n + n) ≡ pos n +ℤ pos n = omega (arith, linear) in ap (λ y. t *ℤ y) two ∙ simp expand

module _ (n g : ℕ) (z : 0 < n) (odd : g % 2 ≡ 1) (i : Inverse n g) where
  pub around : (k : ℤ) → Congruent (n + n) (i.by *ℤ (pos g *ℤ k)) k
  around k =
      cong-trans (n + n) (cong_from (n + n) {b = i.by *ℤ pos g *ℤ k} (simp expand))
      (cong-trans (n + n) (cong-mul (n + n) i.is (cong-refl (n + n) k)) (cong_from (n + n) (simp expand)))

  pub back_around : (k : ℤ) → Congruent (n + n) (pos g *ℤ (i.by *ℤ k)) k
  back_around k = cong-trans (n + n) (cong_from (n + n) (simp expand)) (around k)

  -- a factor in i of the sum
  turned-IsWrapped : (k : ℤ) → IsWrapped n (λ j. unit n (k -ℤ pos g *ℤ j))
  unfolding substituted
  turned-IsWrapped k =
      substituted-IsWrapped n (pos g) (pos (g / 2)) (λ j. unit n (k -ℤ j)) (λ j. opposite j) (odd_half g odd ∙ omega (arith, linear))
    where
      opposite : (j : ℤ) → unit n (k -ℤ (j +ℤ pos n)) ≡ neg_ℤ (unit n (k -ℤ j))
      opposite j =
          let e : unit n (k -ℤ (j +ℤ pos n) +ℤ pos n) ≡ neg_ℤ (unit n (k -ℤ (j +ℤ pos n))) = unit-IsWrapped n z (k -ℤ (j +ℤ pos n)) in
          let f : unit n (k -ℤ (j +ℤ pos n) +ℤ pos n) ≡ unit n (k -ℤ j) = ap (unit n) (omega (arith, linear)) in
          omega (arith, linear)

  summed_period : (a : ℤ → ℤ) (k : ℤ) → IsWrapped n a → IsPeriodic n (λ j. a j *ℤ unit n (k -ℤ pos g *ℤ j))
  summed_period a k w j = (λ t. w j t *ℤ turned-IsWrapped k j t) ∙ signs (a j) (unit n (k -ℤ pos g *ℤ j))
    where
      signs : (x y : ℤ) → neg_ℤ x *ℤ neg_ℤ y ≡ x *ℤ y
      signs x y = simp expand (neg_ℤ-neg_ℤ (x *ℤ y))

  -- the sum is a at h * k
  pub substitution-is : (a : ℤ → ℤ) → IsWrapped n a → (k : ℤ) → substitution n g a k ≡ substituted i.by a k
  unfolding substitution product substituted
  substitution-is a w k =
      let h = i.by in
      let f = λ (j : ℤ). a j *ℤ unit n (k -ℤ pos g *ℤ j) in
      sym (total-affine n z h (pos g) (pos 0) (narrower n (cong-trans (n + n) (cong_from (n + n) (simp expand)) i.is)) f (summed_period a k w))
      ∙ total-same n (λ j. f (h *ℤ pos j +ℤ pos 0)) (λ j. a (h *ℤ pos j) *ℤ unit n (k -ℤ pos j))
      (λ j l t. ap a (none j) t *ℤ period-congruent (n + n) (unit n) (wrapped_period n (unit n) (unit-IsWrapped n z)) (place j) t)
      ∙ product_comm n (substituted h a) (unit n) z (substituted-IsWrapped n h i.half a w i.odd) (unit-IsWrapped n z) k
      ∙ product-unit n (substituted h a) z k
    where
      none : (j : ℕ) → i.by *ℤ pos j +ℤ pos 0 ≡ i.by *ℤ pos j
      none j = omega (arith, linear)

      place : (j : ℕ) → Congruent (n + n) (k -ℤ pos g *ℤ (i.by *ℤ pos j +ℤ pos 0)) (k -ℤ pos j)
      place j = cong-add (n + n) (cong-refl (n + n) k) (cong-neg (n + n) (cong-trans (n + n) (cong_from (n + n) (ap (λ y. pos g *ℤ y) (none j))) (back_around (pos j))))

  pub substitution-IsWrapped : (a : ℤ → ℤ) → IsWrapped n a → IsWrapped n (substitution n g a)
  substitution-IsWrapped a w k =
      substitution-is a w (k +ℤ pos n) ∙ substituted-IsWrapped n i.by i.half a w i.odd k ∙ ap neg_ℤ (sym (substitution-is a w k))

-- a list that is another with X^g for X has the residues of the sum form
pub substituted_is : (m g : ℕ) (xs ys : List ℕ) → IsDegree (length xs) → g % 2 ≡ 1 → IsSubstituted m g xs ys → ys ≡ residues_of m (length xs) (substitution (length xs) g (coefficients xs))
substituted_is m g xs ys d odd s =
    let n = length xs in
    let z = degree_positive n d in
    let i = inverse_of n g d odd in
    residues_of-is m n (substitution n g (coefficients xs)) ys
    (subst (λ (f : ℤ → ℤ). AreResidues m n f ys) (λ t k. sym (substitution-is n g z odd i (coefficients xs) (coefficients-IsWrapped xs z) k) t)
    (substituted_residues m g i.by xs ys z odd i.is s))
