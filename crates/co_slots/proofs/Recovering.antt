-- From the values at all the roots the coefficients are known.
use Rattle.std.proofs.Common.{◌≡◌, ◌≢◌, ℕ, ◌+◌, ◌*◌, ◌-◌, ◌%◌, ◌/◌, ◌<◌, ◌^◌, refl, sym, ap, subst, ◌∙◌, ⊎_elim, arith, ℤ, pos, negsuc, ◌+ℤ◌, ◌-ℤ◌, ◌*ℤ◌}
use Rattle.std.proofs.lemmas.Bool.{cases_lt, cases_eq}
use Rattle.co_math.specs.Residues.{Congruent}
use Rattle.co_math.specs.Sums.{total}
use Rattle.co_math.specs.Powers.{power}
use Rattle.co_math.specs.Values.{value}
use Rattle.co_math.proofs.Integers.{linear, expand, mul-one, one-mul, mul_comm, mul-zero}
use Rattle.co_math.proofs.Residues.{cong-refl, cong_from, cong-sym, cong-trans, cong-mul, cong-total}
use Rattle.co_math.proofs.Powers.{power-mul, power-add, power-congruent, power-one}
use Rattle.co_math.proofs.Totals.{total-same, total-scale, total-swap, total-permute, total-ones}
use Rattle.co_math.proofs.Geometric.{orthogonal}
use Rattle.co_math.proofs.Substitutions.{power-period}
use Rattle.co_math.proofs.Pigeons.{permutes, place_of}
use Rattle.co_ring.proofs.Inverting.{cong-single}

module _ (m n l : ℕ) (psi : ℤ) (whole : n ≡ 2 ^ l) (minus : Congruent m (power psi n) (negsuc 0)) (E : ℕ → ℕ) (below : (p : ℕ) → p < n → E p < 2 * n)
    (odd : (p : ℕ) → p < n → E p % 2 ≡ 1) (differ : (p q : ℕ) → p < n → q < n → p ≢ q → E p ≢ E q) where
  half : ℕ → ℕ
  half p = E p / 2

  half-below : (p : ℕ) → p < n → half p < n
  unfolding half
  half-below p u = let b = below p u in omega arith

  half-apart : (p q : ℕ) → p < n → q < n → half p ≡ half q → p ≡ q
  unfolding half
  half-apart p q u v e = ⊎_elim (λ s. s) (λ ne. absurd (differ p q u v ne (same (E p) (E q) (odd p u) (odd q v) e))) (cases_eq p q)
    where
      same : (a b : ℕ) → a % 2 ≡ 1 → b % 2 ≡ 1 → a / 2 ≡ b / 2 → a ≡ b
      same a b o r e = omega arith

  -- what the place p adds at the coefficient j to that at k
  ratio : ℕ → ℕ → ℕ → ℤ
  ratio j k p = power (power psi (E p)) j *ℤ power psi ((2 * n - E p) * k)

  -- psi ^ d * (psi ^ (2 d)) ^ i
  step : ℕ → ℕ → ℤ
  step d i = power psi d *ℤ power (power psi (2 * d)) i

  ratio-step : (j k p : ℕ) → p < n → k < n → Congruent m (ratio j k p) (step (j + 2 * n - k) (half p))
  unfolding ratio step half
  ratio-step j k p u v =
      let e = E p in
      let i = e / 2 in
      let d = j + 2 * n - k in
      let b = below p u in
      let o : e ≡ 2 * i + 1 = odd_is e (odd p u) in
      cong-trans m (cong_from m (ap (λ t. t *ℤ power psi ((2 * n - e) * k)) (sym (power-mul psi e j)) ∙ sym (power-add psi (e * j) ((2 * n - e) * k))))
      (cong-trans m (power-period m n psi minus (e * j + (2 * n - e) * k) (d + 2 * d * i) (turns e i j k d (2 * n - e) o (omega arith) (omega arith)))
      (cong_from m (power-add psi d (2 * d * i) ∙ ap (λ t. power psi d *ℤ t) (power-mul psi (2 * d) i))))
    where
      odd_is : (e : ℕ) → e % 2 ≡ 1 → e ≡ 2 * (e / 2) + 1
      odd_is e o = omega arith

      -- e j + (2n - e) k is e (j + 2n - k) up to multiples of 2n
      turns : (e i j k d r : ℕ) → e ≡ 2 * i + 1 → r + e ≡ n + n → d + k ≡ j + (n + n) → Congruent (n + n) (pos (e * j + r * k)) (pos (d + 2 * d * i))
      turns e i j k d r o s t = record { times = pos k -ℤ pos e; same = shape (pos (e * j + r * k)) (pos (d + 2 * d * i)) (pos k *ℤ pos (n + n)) (pos e *ℤ pos (n + n)) (pos k -ℤ pos e) difference (split (pos k) (pos e) (pos (n + n))) }
        where
          shape : (x y a b c : ℤ) → x +ℤ b ≡ y +ℤ a → c *ℤ pos (n + n) ≡ a -ℤ b → x ≡ y +ℤ c *ℤ pos (n + n)
          shape x y a b c e f = omega (arith, linear, e, f)

          split : (a b c : ℤ) → (a -ℤ b) *ℤ c ≡ a *ℤ c -ℤ b *ℤ c
          split a b c = simp expand

          total_of : e * j + r * k + e * (n + n) ≡ d + 2 * d * i + k * (n + n)
          total_of =
              let x : (r + e) * k ≡ (n + n) * k = ap (λ y. y * k) s in
              let y : e * (d + k) ≡ e * (j + (n + n)) = ap (λ y. e * y) t in
              let z : e * d ≡ (2 * i + 1) * d = ap (λ y. y * d) o in
              omega (arith, x, y, z)

          difference : pos (e * j + r * k) +ℤ pos e *ℤ pos (n + n) ≡ pos (d + 2 * d * i) +ℤ pos k *ℤ pos (n + n)
          difference = ap pos total_of

  total-ratio : (j k : ℕ) → k < n → Congruent m (total n (ratio j k)) (power psi (j + 2 * n - k) *ℤ total n (power (power psi (2 * (j + 2 * n - k)))))
  unfolding step
  total-ratio j k v =
      let d = j + 2 * n - k in
      cong-trans m (cong-total m n (ratio j k) (λ p. step d (half p)) (λ p u. ratio-step j k p u v))
      (cong_from m (total-permute n half (place_of n half half-below half-apart) (step d) (permutes n half half-below half-apart) ∙ total-scale n (power psi d) (power (power psi (2 * d)))))

  same_ratio : (k : ℕ) → k < n → Congruent m (total n (ratio k k)) (pos n)
  same_ratio k v =
      let e : k + 2 * n - k ≡ n + n = omega arith in
      let f : 2 * (k + 2 * n - k) ≡ (n + n) * 2 = omega arith in
      let one : Congruent m (power psi (n + n)) (pos 1) = cong-trans m (cong_from m (power-add psi n n)) (cong-trans m (cong-mul m minus minus) (cong_from m refl)) in
      let two : Congruent m (power psi (2 * (k + 2 * n - k))) (pos 1) = cong-trans m (cong_from m (ap (power psi) f ∙ power-mul psi (n + n) 2)) (cong-trans m (power-congruent m one 2) (cong_from m (power-one 2))) in
      cong-trans m (total-ratio k k v)
      (cong-trans m (cong-mul m (cong-trans m (cong_from m (ap (power psi) e)) one)
      (cong-trans m (cong-total m n (power (power psi (2 * (k + 2 * n - k)))) (λ i. pos 1) (λ i u. cong-trans m (power-congruent m two i) (cong_from m (power-one i)))) (cong_from m (total-ones n))))
      (cong_from m (one-mul (pos n))))

  other_ratio : (j k : ℕ) → j < n → k < n → j ≢ k → Congruent m (total n (ratio j k)) (pos 0)
  other_ratio j k u v ne =
      let d = j + 2 * n - k in
      cong-trans m (total-ratio j k v)
      (cong-trans m (cong-mul m (cong-refl m (power psi d)) none) (cong_from m (mul-zero (power psi d))))
    where
      gone : (g : ℕ) → 0 < g → g < n → Congruent (n + n) (pos (2 * (j + 2 * n - k))) (pos (2 * g)) → Congruent m (total n (power (power psi (2 * (j + 2 * n - k))))) (pos 0)
      gone g z b c =
          let near : Congruent m (power psi (2 * (j + 2 * n - k))) (power psi (2 * g)) = power-period m n psi minus (2 * (j + 2 * n - k)) (2 * g) c in
          cong-trans m (cong-total m n (power (power psi (2 * (j + 2 * n - k)))) (power (power psi (2 * g))) (λ i w. power-congruent m near i))
          (subst (λ (i : ℕ). Congruent m (total i (power (power psi (2 * g)))) (pos 0)) (sym whole)
          (orthogonal m l psi g z (subst (λ (i : ℕ). g < i) whole b) (subst (λ (i : ℕ). Congruent m (power psi i) (negsuc 0)) whole minus)))

      none : Congruent m (total n (power (power psi (2 * (j + 2 * n - k))))) (pos 0)
      none = ⊎_elim
          (λ w. gone (j + n - k) (omega arith) (omega arith) (record { times = pos 1; same = omega (arith, linear) }))
          (λ w. gone (j - k) (omega arith) (omega arith) (record { times = pos 2; same = omega (arith, linear) }))
          (cases_lt j k)

  -- n times a coefficient is a sum over the values
  pub recovered : (c : ℕ → ℤ) (k : ℕ) → k < n → Congruent m (total n (λ p. value n c (power psi (E p)) *ℤ power psi ((2 * n - E p) * k))) (c k *ℤ pos n)
  unfolding value ratio
  recovered c k v =
      cong-trans m (cong_from m
      (total-same n (λ p. total n (λ j. c j *ℤ power (power psi (E p)) j) *ℤ power psi ((2 * n - E p) * k)) (λ p. total n (λ j. c j *ℤ ratio j k p))
      (λ p u. mul_comm (total n (λ j. c j *ℤ power (power psi (E p)) j)) (power psi ((2 * n - E p) * k))
      ∙ sym (total-scale n (power psi ((2 * n - E p) * k)) (λ j. c j *ℤ power (power psi (E p)) j))
      ∙ total-same n (λ j. power psi ((2 * n - E p) * k) *ℤ (c j *ℤ power (power psi (E p)) j)) (λ j. c j *ℤ ratio j k p) (λ j w. move (power psi ((2 * n - E p) * k)) (c j) (power (power psi (E p)) j)))
      ∙ total-swap n n (λ p j. c j *ℤ ratio j k p)
      ∙ total-same n (λ j. total n (λ p. c j *ℤ ratio j k p)) (λ j. c j *ℤ total n (ratio j k)) (λ j u. total-scale n (c j) (ratio j k))))
      (cong-trans m (cong-single m n (λ j. c j *ℤ total n (ratio j k)) k v (λ j u ne. cong-trans m (cong-mul m (cong-refl m (c j)) (other_ratio j k u v ne)) (cong_from m (mul-zero (c j)))))
      (cong-mul m (cong-refl m (c k)) (same_ratio k v)))
    where
      move : (y v a : ℤ) → y *ℤ (v *ℤ a) ≡ v *ℤ (a *ℤ y)
      move y v a = simp expand

  -- polynomials with the same values have the same coefficients
  pub values_apart : (w : ℤ) (c d : ℕ → ℤ) → Congruent m (w *ℤ pos n) (pos 1) → ((p : ℕ) → p < n → Congruent m (value n c (power psi (E p))) (value n d (power psi (E p))))
      → (k : ℕ) → k < n → Congruent m (c k) (d k)
  values_apart w c d inv h k v =
      let f = λ (c : ℕ → ℤ) (p : ℕ). value n c (power psi (E p)) *ℤ power psi ((2 * n - E p) * k) in
      let same : Congruent m (c k *ℤ pos n) (d k *ℤ pos n) =
      cong-trans m (cong-sym m (recovered c k v)) (cong-trans m (cong-total m n (f c) (f d) (λ p u. cong-mul m (h p u) (cong-refl m (power psi ((2 * n - E p) * k))))) (recovered d k v)) in
      cong-trans m (cong-sym m (divided (c k))) (cong-trans m (cong-mul m same (cong-refl m w)) (divided (d k)))
    where
      divided : (x : ℤ) → Congruent m (x *ℤ pos n *ℤ w) x
      divided x = cong-trans m (cong_from m (turn x (pos n) w)) (cong-trans m (cong-mul m (cong-refl m x) inv) (cong_from m (mul-one x)))
        where
          turn : (x n w : ℤ) → x *ℤ n *ℤ w ≡ x *ℤ (w *ℤ n)
          turn x n w = simp expand
