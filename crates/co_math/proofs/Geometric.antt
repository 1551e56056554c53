-- Sums of the powers of a root, with no prime modulus.
use Rattle.std.proofs.Common.{◌≡◌, ℕ, zero, suc, ◌+◌, ◌*◌, ◌%◌, ◌/◌, ◌<◌, ◌^◌, refl, sym, ap, ◌∙◌, ⊎_elim, ◌⊎◌, inl, inr, arith, ℤ, pos, negsuc, ◌+ℤ◌, ◌*ℤ◌}
use Rattle.std.proofs.lemmas.Bool.{cases_lt, cases_eq}
use Rattle.co_math.specs.Residues.{Congruent}
use Rattle.co_math.specs.Sums.{total}
use Rattle.co_math.specs.Powers.{power, doublings, HasZeroFactor}
use Rattle.co_math.proofs.Integers.{expand, mul-zero, zero-mul}
use Rattle.co_math.proofs.Residues.{cong-trans, cong-mul, cong-add, cong-refl, cong_from, residue-same, residue_small}
use Rattle.co_math.proofs.Powers.{power-mul, power-add, power-congruent, power-suc, power-zero, power-one}
use Rattle.co_math.proofs.Totals.{total-same, total-append, total-scale}

pub geometric : (r : ℤ) (l : ℕ) → total (2 ^ l) (power r) ≡ doublings r l
unfolding doublings total
geometric r zero = ap (λ t. pos 0 +ℤ t) (power-zero r)
geometric r (suc l) =
    let h = 2 ^ l in
    let e : 2 ^ suc l ≡ h + h = omega arith in
    let second : total h (λ i. power r (h + i)) ≡ power r h *ℤ total h (power r) =
    total-same h (λ i. power r (h + i)) (λ i. power r h *ℤ power r i) (λ i u. power-add r h i) ∙ total-scale h (power r h) (power r) in
    ap (λ k. total k (power r)) e ∙ total-append h h (power r) ∙ ap (λ t. total h (power r) +ℤ t) second
    ∙ factor (total h (power r)) (power r h) ∙ ap (λ t. t *ℤ (pos 1 +ℤ power r h)) (geometric r l)
  where
    factor : (x y : ℤ) → x +ℤ y *ℤ x ≡ x *ℤ (pos 1 +ℤ y)
    factor x y = simp expand

-- where one of the factors is 0
pub vanishing : (m : ℕ) (r : ℤ) (l b : ℕ) → b < l → Congruent m (power r (2 ^ b)) (negsuc 0) → Congruent m (doublings r l) (pos 0)
unfolding doublings
vanishing m r zero b u c = absurd (omega arith)
vanishing m r (suc l) b u c = ⊎_elim
    (λ e. cong-trans m (cong-mul m (cong-refl m (doublings r l)) (cong-trans m (cong-add m (cong-refl m (pos 1)) (cong-trans m (cong_from m (ap (λ k. power r (2 ^ k)) (sym e))) c)) (cong_from m refl))) (cong_from m (mul-zero (doublings r l))))
    (λ ne. cong-trans m (cong-mul m (vanishing m r l b (omega arith) c) (cong-refl m (pos 1 +ℤ power r (2 ^ l)))) (cong_from m (zero-mul (pos 1 +ℤ power r (2 ^ l)))))
    (cases_eq b l)

-- j is an odd multiple of 2 ^ (l - 1 - b), or a multiple of 2 ^ l
pub record OddAt (l j : ℕ) : Type 0 where
  pub place : ℕ
  pub half : ℕ
  pub below : place < l
  pub odd : j * 2 ^ suc place ≡ 2 ^ l * (2 * half + 1)

pub odd_at : (l j : ℕ) → 0 < j → j < 2 ^ l → OddAt l j
odd_at zero j z u = absurd (omega arith)
odd_at (suc l) j z u =
    let d : 2 ^ suc l ≡ 2 * 2 ^ l = omega arith in
    ⊎_elim
    (λ e.
    let r = odd_at l (j / 2) (omega arith) (omega arith) in
    let p : j ≡ 2 * (j / 2) = omega arith in
    record { place = r.place; half = r.half; below = omega (arith, r.below); odd = doubled j (j / 2) (2 ^ suc r.place) (2 ^ l) (2 ^ suc l) (2 * r.half + 1) p r.odd d })
    (λ o. record { place = l; half = j / 2; below = omega arith; odd = turn j (2 ^ suc l) ∙ ap (λ k. 2 ^ suc l * k) (omega arith) })
    (even_or_odd j)
  where
    doubled : (j h p x y o : ℕ) → j ≡ 2 * h → h * p ≡ x * o → y ≡ 2 * x → j * p ≡ y * o
    doubled j h p x y o e f g = omega (arith, ap (λ k. k * p) e, ap (λ k. k * o) g)

    turn : (a b : ℕ) → a * b ≡ b * a
    turn a b = omega arith

    even_or_odd : (j : ℕ) → (j ≡ 2 * (j / 2)) ⊎ (j ≡ 2 * (j / 2) + 1)
    even_or_odd j = ⊎_elim (λ l. inl (omega arith)) (λ l. inr (omega arith)) (cases_lt (j % 2) 1)

pub minus_odd : (k : ℕ) → power (negsuc 0) (2 * k + 1) ≡ negsuc 0
minus_odd k = ap (power (negsuc 0)) (omega arith) ∙ power-suc (negsuc 0) (2 * k) ∙ ap (λ t. t *ℤ negsuc 0) (power-mul (negsuc 0) 2 k ∙ ap (λ t. power t k) square ∙ power-one k)
  where
    square : power (negsuc 0) 2 ≡ pos 1
    square = power-suc (negsuc 0) 1 ∙ ap (λ t. t *ℤ negsuc 0) (power-suc (negsuc 0) 0 ∙ ap (λ t. t *ℤ negsuc 0) (power-zero (negsuc 0)))

-- a factor 1 + r ^ (2 ^ b) of the product is 0, where r is psi ^ (2 j), psi ^ n is -1 and 0 < j < n
pub record Vanishes (m : ℕ) (r : ℤ) (l : ℕ) : Type 0 where
  pub place : ℕ
  pub below : place < l
  pub minus : Congruent m (power r (2 ^ place)) (negsuc 0)

pub factor_vanishes : (m l : ℕ) (psi : ℤ) (j : ℕ) → 0 < j → j < 2 ^ l → Congruent m (power psi (2 ^ l)) (negsuc 0) → Vanishes m (power psi (2 * j)) l
factor_vanishes m l psi j z u c =
    let o = odd_at l j z u in
    let e : 2 * j * 2 ^ o.place ≡ 2 ^ l * (2 * o.half + 1) = up_one j o.place ∙ o.odd in
    record {
      place = o.place;
      below = o.below;
      minus =
          cong-trans m (cong_from m (sym (power-mul psi (2 * j) (2 ^ o.place)) ∙ ap (power psi) e ∙ power-mul psi (2 ^ l) (2 * o.half + 1)))
          (cong-trans m (power-congruent m c (2 * o.half + 1)) (cong_from m (minus_odd o.half)));
    }
  where
    up_one : (j b : ℕ) → 2 * j * 2 ^ b ≡ j * 2 ^ suc b
    up_one j b = let d : 2 ^ suc b ≡ 2 * 2 ^ b = omega arith in sym (ap (λ k. j * k) d ∙ turned)
      where
        turned : j * (2 * 2 ^ b) ≡ 2 * j * 2 ^ b
        turned = omega arith

pub zero_factor : (m : ℕ) (r : ℤ) (l : ℕ) → 0 < m → Vanishes m r l → HasZeroFactor m r l
zero_factor m r l p v = record {
  place = v.place;
  below = v.below;
  zero = residue-same m (pos 1 +ℤ power r (2 ^ v.place)) (pos 0) p (cong-trans m (cong-add m (cong-refl m (pos 1)) v.minus) (cong_from m refl)) ∙ residue_small m 0 p;
}

-- the sum of the powers of psi ^ (2 j) is 0, where psi ^ n is -1 and 0 < j < n
pub orthogonal : (m l : ℕ) (psi : ℤ) (j : ℕ) → 0 < j → j < 2 ^ l → Congruent m (power psi (2 ^ l)) (negsuc 0) → Congruent m (total (2 ^ l) (power (power psi (2 * j)))) (pos 0)
orthogonal m l psi j z u c =
    let r = power psi (2 * j) in
    let v = factor_vanishes m l psi j z u c in
    cong-trans m (cong_from m (geometric r l)) (vanishing m r l v.place v.below v.minus)
