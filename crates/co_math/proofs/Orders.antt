-- The powers of 3 and their opposites modulo 2 ^ (l + 1).
use Rattle.std.proofs.Common.{◌≡◌, ℕ, zero, suc, ◌+◌, ◌*◌, ◌-◌, ◌%◌, ◌/◌, ◌<◌, ◌≤◌, ◌^◌, refl, sym, ap, subst, ◌∙◌, ⊎_elim, ◌⊎◌, inl, inr, arith, ℤ, pos, ◌+ℤ◌, ◌-ℤ◌, ◌*ℤ◌}
use Rattle.std.proofs.lemmas.Bool.{cases_lt}
use Rattle.std.proofs.lemmas.Nat.{pow-add, pow_pos}
use Rattle.std.proofs.Math.Nat.{pow-zero, pow-suc}
use lib.IntN.{neg_ℤ}
use Rattle.co_math.specs.Residues.{Congruent}
use Rattle.co_math.specs.Powers.{power, IsOneAndOdd}
use Rattle.co_math.proofs.Integers.{linear, expand, mul_assoc, one-mul}
use Rattle.co_math.proofs.Residues.{cong-refl, cong_from, cong-sym, cong-trans, cong-add, cong-mul, residue-same, residue_small}
use Rattle.co_math.proofs.Powers.{power-zero, power-suc, power-add, power-mul, power-congruent, power-one}
use Rattle.co_math.proofs.Threes.{one_and_odd}
use Rattle.co_math.proofs.Inverses.{odd_has_inverse}

pub power_of_pos : (b k : ℕ) → power (pos b) k ≡ pos (b ^ k)
power_of_pos b zero = power-zero (pos b) ∙ ap pos (sym (pow-zero b))
power_of_pos b (suc k) = power-suc (pos b) k ∙ ap (λ t. t *ℤ pos b) (power_of_pos b k) ∙ ap pos (omega (arith, pow-suc b k))

-- 3 to the power 2 ^ b, where b is at least 1
pub three_is_one_and_odd : (b : ℕ) → 1 ≤ b → IsOneAndOdd (2 ^ (b + 2)) (power (pos 3) (2 ^ b))
three_is_one_and_odd b l =
    let o = one_and_odd (b - 1) in
    let e : suc (b - 1) ≡ b = omega arith in
    let f : b - 1 + 3 ≡ b + 2 = omega arith in
    record {
      half = o.half;
      is = power_of_pos 3 (2 ^ b) ∙ ap (λ k. pos (3 ^ (2 ^ k))) (sym e) ∙ ap pos o.is ∙ ap (λ k. pos (1 + (2 * o.half + 1) * 2 ^ k)) f;
    }

-- congruent modulo a multiple is congruent
pub coarser : (m c : ℕ) {x y : ℤ} → Congruent (c * m) x y → Congruent m x y
coarser m c {x} {y} h = record { times = h.times *ℤ pos c; same = h.same ∙ ap (λ t. y +ℤ t) (sym (mul_assoc h.times (pos c) (pos m))) }

pub coarser_power : (a b : ℕ) {x y : ℤ} → a ≤ b → Congruent (2 ^ b) x y → Congruent (2 ^ a) x y
coarser_power a b {x} {y} l h = coarser (2 ^ a) (2 ^ (b - a)) (subst (λ (k : ℕ). Congruent k x y) (ap (λ k. 2 ^ k) (omega arith) ∙ pow-add 2 (b - a) a) h)

nonzero : (m r : ℕ) → 0 < r → r < m → Congruent m (pos r) (pos 0) → ⊥
nonzero m r z l c = let e : r ≡ 0 = sym (residue_small m r l) ∙ residue-same m (pos r) (pos 0) (omega arith) c ∙ residue_small m 0 (omega arith) in omega arith

record OddPart (l d : ℕ) : Type 0 where
  pub two : ℕ
  pub half : ℕ
  pub below : two < l
  pub is : d ≡ 2 ^ two * (2 * half + 1)

odd_part : (l d : ℕ) → 0 < d → d < 2 ^ l → OddPart l d
odd_part zero d z u = absurd (omega arith)
odd_part (suc l) d z u =
    let e : 2 ^ suc l ≡ 2 * 2 ^ l = omega arith in
    ⊎_elim
    (λ v.
    let r = odd_part l (d / 2) (omega arith) (omega arith) in
    record { two = suc r.two; half = r.half; below = omega (arith, r.below); is = doubled d (d / 2) (2 ^ r.two) (2 ^ suc r.two) (2 * r.half + 1) (omega arith) r.is (omega arith) })
    (λ v. record { two = 0; half = d / 2; below = omega arith; is = once d (2 * (d / 2) + 1) (omega arith) })
    (cases_lt (d % 2) 1)
  where
    doubled : (d h p q o : ℕ) → d ≡ 2 * h → h ≡ p * o → q ≡ 2 * p → d ≡ q * o
    doubled d h p q o e f g = omega (arith, ap (λ k. k * o) g)

    once : (d o : ℕ) → d ≡ o → d ≡ 2 ^ 0 * o
    once d o e = omega arith

-- 3 to the power 2 ^ b isn't 1 modulo 2 ^ (b + 3)
not_one : (b : ℕ) → Congruent (2 ^ (b + 3)) (power (pos 3) (2 ^ b)) (pos 1) → ⊥
not_one zero c = impossible c.times (sym (power_of_pos 3 1) ∙ c.same)
  where
    impossible : (t : ℤ) → pos 3 ≡ pos 1 +ℤ t *ℤ pos 8 → ⊥
    impossible t e = omega (arith, linear, e)
not_one (suc b) c =
    let o = one_and_odd b in
    let x = 2 ^ (b + 3) in
    let w : 2 ^ (suc b + 3) ≡ x + x = pow_more b in
    let e : power (pos 3) (2 ^ suc b) ≡ pos (1 + (2 * o.half + 1) * x) = power_of_pos 3 (2 ^ suc b) ∙ ap pos o.is in
    halves x o.half c.times (pow_pos (b + 3)) (sym e ∙ c.same ∙ ap (λ k. pos 1 +ℤ c.times *ℤ pos k) w)
  where
    pow_more : (b : ℕ) → 2 ^ (suc b + 3) ≡ 2 ^ (b + 3) + 2 ^ (b + 3)
    pow_more b = ap (λ k. 2 ^ k) (turn b) ∙ omega arith
      where
        turn : (b : ℕ) → suc b + 3 ≡ suc (b + 3)
        turn b = omega arith

    halves : (x h : ℕ) (t : ℤ) → 0 < x → pos (1 + (2 * h + 1) * x) ≡ pos 1 +ℤ t *ℤ pos (x + x) → ⊥
    halves x h t z e = nonzero (x + x) x z (omega arith) (record { times = t -ℤ pos h; same = placed x h (t *ℤ pos (x + x)) e ∙ ap (λ y. pos 0 +ℤ y) (sym (spread_out t (pos h) (pos (x + x)))) })
      where
        spread_out : (t h m : ℤ) → (t -ℤ h) *ℤ m ≡ t *ℤ m -ℤ h *ℤ m
        spread_out t h m = simp expand

        placed : (x h : ℕ) (y : ℤ) → pos (1 + (2 * h + 1) * x) ≡ pos 1 +ℤ y → pos x ≡ pos 0 +ℤ (y -ℤ pos (h * (x + x)))
        placed x h y e = omega (arith, linear)

-- no smaller power of 3 is 1
pub order : (l d : ℕ) → 0 < d → d < 2 ^ l → Congruent (2 ^ (l + 2)) (power (pos 3) d) (pos 1) → ⊥
order l d z u c =
    let o = odd_part l d z u in
    let b = o.two in
    let m = 2 ^ (b + 3) in
    let y = power (pos 3) (2 ^ b) in
    let near : Congruent m (power (pos 3) d) (pos 1) = coarser_power (b + 3) (l + 2) (omega (arith, o.below)) c in
    let square : Congruent m (power (pos 3) (2 ^ suc b)) (pos 1) =
    let s = one_and_odd b in
    record { times = pos (2 * s.half + 1); same = power_of_pos 3 (2 ^ suc b) ∙ ap pos s.is } in
    let shape : power (pos 3) d ≡ power (power (pos 3) (2 ^ suc b)) o.half *ℤ y =
    ap (power (pos 3)) (o.is ∙ split (2 ^ b) (2 ^ suc b) o.half (omega arith)) ∙ power-add (pos 3) (2 ^ suc b * o.half) (2 ^ b) ∙ ap (λ t. t *ℤ y) (power-mul (pos 3) (2 ^ suc b) o.half) in
    let drop : Congruent m (power (power (pos 3) (2 ^ suc b)) o.half *ℤ y) y =
    cong-trans m (cong-mul m (cong-trans m (power-congruent m square o.half) (cong_from m (power-one o.half))) (cong-refl m y)) (cong_from m (one-mul y)) in
    not_one b (cong-trans m (cong-sym m drop) (cong-trans m (cong_from m (sym shape)) near))
  where
    split : (p q h : ℕ) → q ≡ 2 * p → p * (2 * h + 1) ≡ q * h + p
    split p q h e = omega (arith, ap (λ k. k * h) e)

pub record IsOdd (x : ℤ) : Type 0 where
  pub half : ℤ
  pub is : x ≡ half +ℤ half +ℤ pos 1

pub three-odd : (i : ℕ) → IsOdd (power (pos 3) i)
three-odd zero = record { half = pos 0; is = power-zero (pos 3) }
three-odd (suc i) =
    let o = three-odd i in
    record { half = o.half +ℤ o.half +ℤ o.half +ℤ pos 1; is = power-suc (pos 3) i ∙ ap (λ t. t *ℤ pos 3) o.is ∙ shape o.half }
  where
    shape : (v : ℤ) → (v +ℤ v +ℤ pos 1) *ℤ pos 3 ≡ v +ℤ v +ℤ v +ℤ pos 1 +ℤ (v +ℤ v +ℤ v +ℤ pos 1) +ℤ pos 1
    shape v = omega (arith, linear)

-- the powers below the order differ
pub threes_differ : (l i j : ℕ) → i < j → j < 2 ^ l → Congruent (2 ^ (l + 2)) (power (pos 3) i) (power (pos 3) j) → ⊥
threes_differ l i j u v c =
    let m = 2 ^ (l + 2) in
    let o = three-odd i in
    let e : 2 ^ suc (l + 1) ≡ m = ap (λ k. 2 ^ k) (omega arith) in
    let n = odd_has_inverse (l + 1) (power (pos 3) i) o.half o.is in
    let inv : Congruent m (n.by *ℤ power (pos 3) i) (pos 1) = subst (λ (k : ℕ). Congruent k (n.by *ℤ power (pos 3) i) (pos 1)) e n.is in
    let d = j - i in
    let split : power (pos 3) j ≡ power (pos 3) i *ℤ power (pos 3) d = ap (power (pos 3)) (omega arith) ∙ power-add (pos 3) i d in
    let down : Congruent m (power (pos 3) d) (n.by *ℤ power (pos 3) j) =
    cong-trans m (cong_from m (sym (one-mul (power (pos 3) d)))) (cong-trans m (cong-mul m (cong-sym m inv) (cong-refl m (power (pos 3) d))) (cong_from m (mul_assoc n.by (power (pos 3) i) (power (pos 3) d) ∙ ap (λ t. n.by *ℤ t) (sym split)))) in
    order l d (omega arith) (omega arith) (cong-trans m down (cong-trans m (cong-mul m (cong-refl m n.by) (cong-sym m c)) inv))

-- modulo 8 a power of 3 is 1 or 3
three-eight : (i : ℕ) → (Congruent 8 (power (pos 3) i) (pos 1)) ⊎ (Congruent 8 (power (pos 3) i) (pos 3))
three-eight zero = inl (cong_from 8 (power-zero (pos 3)))
three-eight (suc i) = ⊎_elim
    (λ c. inr (cong-trans 8 (cong_from 8 (power-suc (pos 3) i)) (cong-mul 8 c (cong-refl 8 (pos 3)))))
    (λ c. inl (cong-trans 8 (cong_from 8 (power-suc (pos 3) i)) (cong-trans 8 (cong-mul 8 c (cong-refl 8 (pos 3))) (record { times = pos 1; same = refl }))))
    (three-eight i)

-- no power of 3 is the opposite of another
pub threes_opposite : (i j : ℕ) → Congruent 8 (power (pos 3) i) (neg_ℤ (power (pos 3) j)) → ⊥
threes_opposite i j c = ⊎_elim
    (λ a. ⊎_elim (λ b. nonzero 8 2 (omega arith) (omega arith) (both 1 1 a b)) (λ b. nonzero 8 4 (omega arith) (omega arith) (both 1 3 a b)) (three-eight j))
    (λ a. ⊎_elim (λ b. nonzero 8 4 (omega arith) (omega arith) (both 3 1 a b)) (λ b. nonzero 8 6 (omega arith) (omega arith) (both 3 3 a b)) (three-eight j))
    (three-eight i)
  where
    none : (y : ℤ) → neg_ℤ y +ℤ y ≡ pos 0
    none y = omega (arith, linear)

    both : (a b : ℕ) → Congruent 8 (power (pos 3) i) (pos a) → Congruent 8 (power (pos 3) j) (pos b) → Congruent 8 (pos (a + b)) (pos 0)
    both a b x y = cong-trans 8 (cong-add 8 (cong-sym 8 x) (cong-sym 8 y)) (cong-trans 8 (cong-add 8 c (cong-refl 8 (power (pos 3) j))) (cong_from 8 (none (power (pos 3) j))))
