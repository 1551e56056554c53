-- From the values at all the roots back to the coefficients.
use Rattle.std.proofs.Common.{◌≡◌, ℕ, zero, suc, ◌+◌, ◌*◌, ◌-◌, ◌/◌, ◌%◌, ◌<◌, ◌^◌, ◌≢◌, refl, sym, ap, subst, ◌∙◌, ⊎_elim, arith, ℤ, pos, negsuc, ◌+ℤ◌, ◌*ℤ◌, List, length, get_or}
use Rattle.std.proofs.lemmas.Bool.{cases_eq, cases_lt}
use Rattle.co_math.specs.Residues.{Congruent}
use Rattle.co_math.specs.Sums.{total}
use Rattle.co_math.specs.Powers.{power}
use Rattle.co_math.specs.Values.{value}
use Rattle.co_math.proofs.Integers.{linear, expand, mul-one, mul-zero}
use Rattle.co_math.proofs.Residues.{cong-refl, cong_from, cong-sym, cong-trans, cong-add, cong-mul, cong-total}
use Rattle.co_math.proofs.Powers.{power-mul, power-add, power-times, power-congruent, power-one}
use Rattle.co_math.proofs.Totals.{total-zero, total-suc, total-same, total-scale, total-swap}
use Rattle.co_math.proofs.Geometric.{orthogonal}
use Rattle.co_math.proofs.Substitutions.{power-period}
use Rattle.co_math.specs.Powers.{root}
use Rattle.co_math.specs.Values.{value_at}
use Rattle.co_math.specs.Coefficients.{coefficients, AreBelow, AreResidues, IsDegree}
use Rattle.co_math.proofs.Residues.{residue-same}
use Rattle.co_math.proofs.Reduced.{reduced_as, residue_of}
use Rattle.co_math.proofs.Powers.{mod-is}
use Rattle.co_math.proofs.Values.{value-congruent}
use Rattle.co_math.proofs.Terms.{coefficient-low}
use Rattle.co_ring.specs.declared.moduli.Modulus.{Modulus}
use Rattle.co_ring.specs.Moduli.{value_of}
use Rattle.co_ring.specs.Spectra.{AreValues}
use Rattle.co_ring.proofs.Keeping.{value-positive}
use Rattle.co_ring.proofs.Rooted.{root_minus}
use Rattle.co_ring.proofs.Factors.{scaled_back}

-- the difference of two of them is twice a number below n that isn't 0
pub record Gap (n a b : ℕ) : Type 0 where
  pub half : ℕ
  pub positive : 0 < half
  pub below : half < n
  pub is : Congruent (n + n) (pos (2 * n - a + b)) (pos (2 * half))

pub gap : (n a b : ℕ) → a < 2 * n → b < 2 * n → a % 2 ≡ 1 → b % 2 ≡ 1 → a ≢ b → Gap n a b
gap n a b u v o p ne = ⊎_elim
    (λ l. record { half = (b - a) / 2; positive = omega arith; below = omega arith; is = record { times = pos 1; same = omega (arith, linear) } })
    (λ l. record { half = (2 * n - a + b) / 2; positive = omega arith; below = omega arith; is = cong_from (n + n) (ap pos (omega arith)) })
    (cases_lt a b)

cong-none : (m n : ℕ) (f : ℕ → ℤ) → ((i : ℕ) → i < n → Congruent m (f i) (pos 0)) → Congruent m (total n f) (pos 0)
cong-none m zero f h = cong_from m (total-zero f)
cong-none m (suc n) f h = cong-trans m (cong_from m (total-suc n f)) (cong-add m (cong-none m n f (λ i l. h i (omega arith))) (h n (omega arith)))

-- where all the others are 0 modulo m
pub cong-single : (m n : ℕ) (f : ℕ → ℤ) (q : ℕ) → q < n → ((i : ℕ) → i < n → i ≢ q → Congruent m (f i) (pos 0)) → Congruent m (total n f) (f q)
cong-single m zero f q l h = absurd (omega arith)
cong-single m (suc n) f q l h = cong-trans m (cong_from m (total-suc n f)) (⊎_elim
    (λ e. cong-trans m (cong-add m (cong-none m n f (λ i u. h i (omega arith) (λ w. absurd (omega arith)))) (cong-refl m (f n))) (cong_from m (front (f n) ∙ ap f (sym e))))
    (λ ne. cong-trans m (cong-add m (cong-single m n f q (omega arith) (λ i u w. h i (omega arith) w)) (h n (omega arith) (λ w. ne (sym w)))) (cong_from m (back (f q))))
    (cases_eq q n))
  where
    front : (x : ℤ) → pos 0 +ℤ x ≡ x
    front x = omega (arith, linear)

    back : (x : ℤ) → x +ℤ pos 0 ≡ x
    back x = omega (arith, linear)

ones : (n : ℕ) (f : ℕ → ℤ) → ((k : ℕ) → f k ≡ pos 1) → total n f ≡ pos n
ones zero f h = total-zero f
ones (suc n) f h = total-suc n f ∙ (λ t. ones n f h t +ℤ h n t) ∙ ap pos (omega arith)

module _ (m n l : ℕ) (psi : ℤ) (whole : n ≡ 2 ^ l) (minus : Congruent m (power psi n) (negsuc 0)) (E : ℕ → ℕ) (below : (p : ℕ) → p < n → E p < 2 * n)
    (odd : (p : ℕ) → p < n → E p % 2 ≡ 1) (differ : (p q : ℕ) → p < n → q < n → p ≢ q → E p ≢ E q) where
  ratio : ℕ → ℕ → ℤ
  ratio p q = power psi (2 * n - E p + E q)

  term-ratio : (p q k : ℕ) → power psi ((2 * n - E p) * k) *ℤ power (power psi (E q)) k ≡ power (ratio p q) k
  unfolding ratio
  term-ratio p q k =
      ap (λ t. t *ℤ power (power psi (E q)) k) (power-mul psi (2 * n - E p) k) ∙ sym (power-times (power psi (2 * n - E p)) (power psi (E q)) k)
      ∙ ap (λ t. power t k) (sym (power-add psi (2 * n - E p) (E q)))

  same_ratio : (q : ℕ) → q < n → Congruent m (total n (power (ratio q q))) (pos n)
  unfolding ratio
  same_ratio q u =
      let e : 2 * n - E q + E q ≡ n + n = omega (arith, below q u) in
      let one : Congruent m (ratio q q) (pos 1) =
      cong-trans m (cong_from m (ap (power psi) e ∙ power-add psi n n)) (cong-trans m (cong-mul m minus minus) (cong_from m refl)) in
      cong-trans m (cong-total m n (power (ratio q q)) (λ k. pos 1) (λ k v. cong-trans m (power-congruent m one k) (cong_from m (power-one k)))) (cong_from m (ones n (λ k. pos 1) (λ k. refl)))

  other_ratio : (p q : ℕ) → p < n → q < n → p ≢ q → Congruent m (total n (power (ratio p q))) (pos 0)
  unfolding ratio
  other_ratio p q u v ne =
      let g = gap n (E p) (E q) (below p u) (below q v) (odd p u) (odd q v) (differ p q u v ne) in
      let near : Congruent m (ratio p q) (power psi (2 * g.half)) = power-period m n psi minus (2 * n - E p + E q) (2 * g.half) g.is in
      cong-trans m (cong-total m n (power (ratio p q)) (power (power psi (2 * g.half))) (λ k w. power-congruent m near k))
      (subst (λ (i : ℕ). Congruent m (total i (power (power psi (2 * g.half)))) (pos 0)) (sym whole)
      (orthogonal m l psi g.half g.positive (subst (λ (i : ℕ). g.half < i) whole g.below) (subst (λ (i : ℕ). Congruent m (power psi i) (negsuc 0)) whole minus)))

  pub interpolated : (v c : ℕ → ℤ) (w : ℤ) → Congruent m (w *ℤ pos n) (pos 1) → ((k : ℕ) → k < n → Congruent m (c k) (w *ℤ total n (λ p. v p *ℤ power psi ((2 * n - E p) * k))))
      → (q : ℕ) → q < n → Congruent m (value n c (power psi (E q))) (v q)
  unfolding value ratio
  interpolated v c w inv h q u =
      let x = power psi (E q) in
      cong-trans m (cong-total m n (λ k. c k *ℤ power x k) (λ k. w *ℤ total n (λ p. v p *ℤ power (ratio p q) k))
      (λ k a. cong-trans m (cong-mul m (h k a) (cong-refl m (power x k))) (cong_from m (inner k))))
      (cong-trans m (cong_from m (total-scale n w (λ k. total n (λ p. v p *ℤ power (ratio p q) k)) ∙ ap (λ t. w *ℤ t) (total-swap n n (λ k p. v p *ℤ power (ratio p q) k)
      ∙ total-same n (λ p. total n (λ k. v p *ℤ power (ratio p q) k)) (λ p. v p *ℤ total n (power (ratio p q))) (λ p a. total-scale n (v p) (power (ratio p q))))))
      (cong-trans m (cong-mul m (cong-refl m w)
      (cong-trans m (cong-single m n (λ p. v p *ℤ total n (power (ratio p q))) q u (λ p a ne. cong-trans m (cong-mul m (cong-refl m (v p)) (other_ratio p q a u ne)) (cong_from m (mul-zero (v p)))))
      (cong-mul m (cong-refl m (v q)) (same_ratio q u))))
      (cong-trans m (cong_from m (turn w (v q) (pos n))) (cong-trans m (cong-mul m (cong-refl m (v q)) inv) (cong_from m (mul-one (v q)))))))
    where
      turn : (w y n : ℤ) → w *ℤ (y *ℤ n) ≡ y *ℤ (w *ℤ n)
      turn w y n = simp expand

      regroup : (w t y : ℤ) → w *ℤ t *ℤ y ≡ w *ℤ (y *ℤ t)
      regroup w t y = simp expand

      move : (y v a : ℤ) → y *ℤ (v *ℤ a) ≡ v *ℤ (a *ℤ y)
      move y v a = simp expand

      inner : (k : ℕ) → w *ℤ total n (λ p. v p *ℤ power psi ((2 * n - E p) * k)) *ℤ power (power psi (E q)) k ≡ w *ℤ total n (λ p. v p *ℤ power (ratio p q) k)
      inner k =
          regroup w (total n (λ p. v p *ℤ power psi ((2 * n - E p) * k))) (power (power psi (E q)) k)
          ∙ ap (λ t. w *ℤ t) (sym (total-scale n (power (power psi (E q)) k) (λ p. v p *ℤ power psi ((2 * n - E p) * k)))
          ∙ total-same n (λ p. power (power psi (E q)) k *ℤ (v p *ℤ power psi ((2 * n - E p) * k))) (λ p. v p *ℤ power (ratio p q) k)
          (λ p a. move (power (power psi (E q)) k) (v p) (power psi ((2 * n - E p) * k)) ∙ ap (λ t. v p *ℤ t) (term-ratio p q k)))

-- a polynomial by its coefficients at 0, 1, ..
of_places : (ℕ → ℤ) → ℤ → ℤ
of_places c (pos k) = c k
of_places c (negsuc k) = pos 0

interpolation : ℕ → ℤ → ℤ → (ℕ → ℤ) → ℕ → ℤ
interpolation n w psi v k = w *ℤ total n (λ p. v p *ℤ power psi ((2 * n - (2 * p + 1)) * k))

-- the polynomial with the values xs
pub found : Modulus → ℕ → List ℕ → ℤ → ℤ
found modulus n xs =
    let m = value_of modulus in
    of_places (interpolation n (pos (m - (m - 1) / n)) (pos (root m n)) (λ p. pos (get_or xs p 0)))

pub found_values : (modulus : Modulus) (n : ℕ) (xs : List ℕ) → IsDegree n → length xs ≡ n → AreBelow (value_of modulus) xs → AreValues (value_of modulus) n (found modulus n xs) xs
unfolding found of_places interpolation value_at
found_values modulus n xs d len b =
    let m = value_of modulus in
    let z = value-positive modulus in
    let w = m - (m - 1) / n in
    let psi = pos (root m n) in
    let inverse : (n * w) % m ≡ 1 = subst (λ (k : ℕ). (k * (m - (m - 1) / k)) % m ≡ 1) (sym d.is) (scaled_back modulus d.exponent d.most) in
    let unit : Congruent m (pos w *ℤ pos n) (pos 1) = cong-trans m (cong_from m (turn w n)) (cong-trans m (cong-sym m (mod-is m (n * w) z)) (cong_from m (ap pos inverse))) in
    let c = interpolation n (pos w) psi (λ p. pos (get_or xs p 0)) in
    record {
      len = len;
      each = λ k u.
          reduced_as m (get_or xs k 0) (value n c (power psi (2 * k + 1))) (b k (omega (arith, u, len)))
          (cong-sym m (interpolated m n d.exponent psi d.is (root_minus modulus n d) (λ p. 2 * p + 1) (λ p v. omega arith) (λ p v. omega arith) (λ p q x y ne e. ne (omega (arith, e)))
          (λ p. pos (get_or xs p 0)) c (pos w) unit (λ j a. cong-refl m (c j)) k u));
    }
  where
    turn : (w n : ℕ) → pos w *ℤ pos n ≡ pos (n * w)
    turn w n = ap pos (omega arith)

-- a polynomial that has the residues of f has its values
pub own_values : (m n : ℕ) (f : ℤ → ℤ) (values ys : List ℕ) → 0 < m → AreValues m n f values → AreResidues m n f ys → AreValues m n (coefficients ys) values
unfolding value_at
own_values m n f values ys z v r = record {
  len = v.len;
  each = λ k u.
      let x = power (pos (root m n)) (2 * k + 1) in
      v.each k u ∙ residue-same m (value_at n f x) (value_at n (coefficients ys) x) z
      (value-congruent m n (λ j. f (pos j)) (λ j. coefficients ys (pos j)) x
      (λ j a. cong-sym m (cong-trans m (cong_from m (coefficient-low ys j (omega (arith, a, r.len)))) (residue_of m (get_or ys j 0) (f (pos j)) z (r.each j a)))));
}

-- what is back from values has them
pub values_back : (modulus : Modulus) (n : ℕ) (values ys : List ℕ) → IsDegree n → length values ≡ n → AreBelow (value_of modulus) values
    → ((f : ℤ → ℤ) → AreValues (value_of modulus) n f values → AreResidues (value_of modulus) n f ys) → AreValues (value_of modulus) n (coefficients ys) values
values_back modulus n values ys d len b back =
    let v = found_values modulus n values d len b in
    own_values (value_of modulus) n (found modulus n values) values ys (value-positive modulus) v (back (found modulus n values) v)
