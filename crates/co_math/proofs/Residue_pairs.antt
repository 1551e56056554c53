-- Numbers by their residues modulo two moduli, and by digits.
use Rattle.std.proofs.Common.{◌≡◌, ℕ, zero, suc, ◌+◌, ◌*◌, ◌%◌, ◌/◌, ◌<◌, ◌^◌, refl, sym, ap, subst, ◌∙◌, arith, ℤ, pos, ◌+ℤ◌, ◌-ℤ◌, ◌*ℤ◌}
use Rattle.std.proofs.Math.Nat.{pow-zero, pow-suc, div-add-mod', div-div-eq-div-mul}
use Rattle.std.proofs.lemmas.Nat.{div_below}
use lib.IntN.{neg_ℤ}
use Rattle.co_math.specs.Residues.{Congruent}
use Rattle.co_math.specs.Sums.{total}
use Rattle.co_math.proofs.Integers.{linear, expand, mul_assoc, mul-one}
use Rattle.co_math.proofs.Residues.{cong-trans, cong-sym, cong-mul, cong-add, cong-refl, cong_from}
use Rattle.co_math.proofs.Totals.{total-first, total-same, total-scale, total-zero}
use Rattle.co_math.specs.Parameters.{first_modulus, inverse_of_first, second_modulus}

-- congruent modulo a and modulo b, where a has an inverse modulo b, is congruent modulo a * b
pub cong-both : (a b : ℕ) (u : ℤ) {x y : ℤ} → Congruent b (pos a *ℤ u) (pos 1) → Congruent a x y → Congruent b x y → Congruent (a * b) x y
cong-both a b u {x} {y} inv ca cb =
    let s = ca.times in
    let zero_b : Congruent b (s *ℤ pos a) (pos 0) = cong-trans b (cong_from b (apart x y (s *ℤ pos a) ca.same)) (cong-trans b (cong-add b cb (cong-refl b (neg_ℤ y))) (cong_from b (none y))) in
    let s_zero : Congruent b s (pos 0) = cong-trans b (cong-sym b (cong-trans b (cong-mul b (cong-refl b s) inv) (cong_from b (mul-one s))))
    (cong-trans b (cong_from b (sym (mul_assoc s (pos a) u))) (cong-trans b (cong-mul b zero_b (cong-refl b u)) (cong_from b (nothing u)))) in
    record { times = s_zero.times; same = ca.same ∙ ap (λ t. y +ℤ t *ℤ pos a) s_zero.same ∙ shape y s_zero.times (pos a) (pos b) }
  where
    apart : (x y z : ℤ) → x ≡ y +ℤ z → z ≡ x -ℤ y
    apart x y z e = omega (arith, linear)

    none : (y : ℤ) → y -ℤ y ≡ pos 0
    none y = omega (arith, linear)

    nothing : (u : ℤ) → pos 0 *ℤ u ≡ pos 0
    nothing u = simp expand

    shape : (y t a b : ℤ) → y +ℤ (pos 0 +ℤ t *ℤ b) *ℤ a ≡ y +ℤ t *ℤ (a *ℤ b)
    shape y t a b = simp expand (omega (arith, linear))

-- q1 has the inverse u modulo q2
pub inverse : Congruent second_modulus (pos first_modulus *ℤ pos inverse_of_first) (pos 1)
inverse = record { times = pos (first_modulus * inverse_of_first / second_modulus); same = refl }

-- the digits of x in base w
pub digits : (w l x : ℕ) → 0 < w → x < w ^ l → total l (λ j. pos (x / w ^ j % w * w ^ j)) ≡ pos x
digits w zero x p u = total-zero (λ j. pos (x / w ^ j % w * w ^ j)) ∙ ap pos (omega (arith, pow-zero w))
digits w (suc l) x p u =
    total-first l (λ j. pos (x / w ^ j % w * w ^ j))
    ∙ (λ t. pos (lowest t) +ℤ (total-same l (λ j. pos (x / w ^ suc j % w * w ^ suc j)) (λ j. pos w *ℤ pos (x / w / w ^ j % w * w ^ j)) (λ j v. ap pos (next j)) ∙ total-scale l (pos w) (λ j. pos (x / w / w ^ j % w * w ^ j)) ∙ ap (λ y. pos w *ℤ y) (digits w l (x / w) p below)) t)
    ∙ ap pos (turn (x % w) w (x / w) ∙ div-add-mod' x w)
  where
    lowest : x / w ^ 0 % w * w ^ 0 ≡ x % w
    lowest = (λ t. x / pow-zero w t % w * pow-zero w t) ∙ ap (λ y. y % w * 1) (div_one x) ∙ omega arith
      where
        div_one : (x : ℕ) → x / 1 ≡ x
        div_one x = omega arith

    more : (j : ℕ) → w ^ suc j ≡ w * w ^ j
    more j = omega (arith, pow-suc w j)

    next : (j : ℕ) → x / w ^ suc j % w * w ^ suc j ≡ w * (x / w / w ^ j % w * w ^ j)
    next j = (λ t. x / more j t % w * more j t) ∙ ap (λ y. y % w * (w * w ^ j)) (sym (div-div-eq-div-mul x w (w ^ j))) ∙ turned (x / w / w ^ j % w) w (w ^ j)
      where
        turned : (a b c : ℕ) → a * (b * c) ≡ b * (a * c)
        turned a b c = omega arith

    turn : (a b c : ℕ) → a + b * c ≡ c * b + a
    turn a b c = omega arith

    below : x / w < w ^ l
    below = div_below x w (w ^ l) p (subst (λ (k : ℕ). x < k) (more l ∙ omega arith) u)
