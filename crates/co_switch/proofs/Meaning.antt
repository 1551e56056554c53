-- What a ciphertext means after a switch.
use Rattle.std.proofs.Common.{◌≡◌, ℕ, ◌+◌, ◌*◌, ◌-◌, ◌/◌, ◌%◌, ◌^◌, ◌<◌, ◌≤◌, refl, sym, ap, subst, ◌∙◌, ⊎_elim, arith, ℤ, pos, ◌+ℤ◌, ◌-ℤ◌, ◌*ℤ◌, List, length}
use Rattle.std.proofs.lemmas.Bool.{cases_lt}
use Rattle.std.specs.Int.RustNames.{unsigned_abs}
use lib.IntN.{neg_ℤ}
use Rattle.co_math.specs.Parameters.{q, plain_modulus, digit_base, digit_count, error_bound}
use Rattle.co_math.specs.Residues.{Congruent}
use Rattle.co_math.specs.Sums.{total}
use Rattle.co_math.specs.Coefficients.{coefficients, AreBelow}
use Rattle.co_math.specs.Polynomials.{IsWrapped, product, plus, substituted, substitution}
use Rattle.co_math.specs.Meanings.{centred, phase, noise, Means}
use Rattle.co_math.proofs.Integers.{linear, expand}
use Rattle.co_math.proofs.Residues.{cong-refl, cong_from, cong-trans, cong-sym, cong-add}
use Rattle.co_math.proofs.Totals.{total-same, total-none}
use Rattle.co_math.proofs.Periods.{period-congruent}
use Rattle.co_math.proofs.Places.{coefficients-IsWrapped}
use Rattle.co_math.proofs.Agreements.{Agree}
use Rattle.co_math.proofs.Substitutions.{wrapped_period, substituted-IsWrapped}
use Rattle.co_math.proofs.Meanings.{means_by, noise-is, cong-times, centred-is}
use Rattle.co_math.proofs.Switches.{sums}
use Rattle.co_math.proofs.Switched.{means_switched}
use Rattle.co_bfv.proofs.Meant.{phases_agree}
use Rattle.co_switch.specs.Switches.{digit_polynomial}
use Rattle.co_math.proofs.Substituting.{Inverse, substitution-is, around, back_around, odd_half}
use Rattle.co_switch.proofs.Digitwise.{digit-IsWrapped, digit-small, digits-sum}
use Rattle.co_switch.proofs.Cuts.{below, below-in, below-out, cut, cut-in, cut-out, cut_all}

-- parts that agree modulo q mean the same
pub means_alike : (t q n : ℕ) (s c₀ c₁ d₀ d₁ m : ℤ → ℤ) (b : ℕ) → 0 < t * q → Agree q d₀ c₀ → Agree q d₁ c₁ → Means t q n s c₀ c₁ m b → Means t q n s d₀ d₁ m b
means_alike t q n s c₀ c₁ d₀ d₁ m b p f g h =
    means_by t q n s d₀ d₁ m b (noise t q n s c₀ c₁ m) p h.within
    (λ k. cong-trans (t * q) (noise-is t q n s c₀ c₁ m p k)
    (cong-add (t * q) (cong-sym (t * q) (cong-times t q (phases_agree q n s d₀ d₁ c₀ c₁ f g k))) (cong-refl (t * q) (neg_ℤ (pos q *ℤ m k)))))

-- the switch over the integers: ys is c₁(X^g) modulo q, and the pairs of k₀ and k₁ are those of a good key
module _ (n g : ℕ) (z : 0 < n) (odd : g % 2 ≡ 1) (i : Inverse n g) (s c₀ c₁ m : ℤ → ℤ) (ws : IsWrapped n s) (w₀ : IsWrapped n c₀) (w₁ : IsWrapped n c₁) (wm : IsWrapped n m)
    (ys : List ℕ) (len : length ys ≡ n) (small : AreBelow q ys) (ys_are : Agree q (coefficients ys) (substitution n g c₁))
    (k₀ k₁ : ℕ → ℤ → ℤ) (wk : (j : ℕ) → j < digit_count → IsWrapped n (k₁ j))
    (good : (j : ℕ) → j < digit_count → (k : ℤ) → unsigned_abs (centred q (phase n s (k₀ j) (k₁ j) k -ℤ pos (digit_base ^ j) *ℤ substitution n g s k)) ≤ error_bound) where
  d : ℕ → ℤ → ℤ
  d j = coefficients (digit_polynomial j ys)

  error : ℕ → ℤ → ℤ
  error j k = centred q (phase n s (k₀ j) (k₁ j) k -ℤ pos (digit_base ^ j) *ℤ substitution n g s k)

  -- c₁ up to multiples of q, so that its digits are those of ys
  back : ℤ → ℤ
  back k = coefficients ys (pos g *ℤ k)

  ys-IsWrapped : IsWrapped n (coefficients ys)
  ys-IsWrapped = subst (λ (l : ℕ). IsWrapped l (coefficients ys)) len (coefficients-IsWrapped ys (omega (arith, len)))

  back-IsWrapped : IsWrapped n back
  unfolding back substituted
  back-IsWrapped = substituted-IsWrapped n (pos g) (pos (g / 2)) (coefficients ys) ys-IsWrapped (odd_half g odd ∙ omega (arith, linear))

  back_agrees : Agree q back c₁
  unfolding back substituted
  back_agrees k =
      cong-trans q (ys_are (pos g *ℤ k))
      (cong_from q (substitution-is n g z odd i c₁ w₁ (pos g *ℤ k) ∙ period-congruent (n + n) c₁ (wrapped_period n c₁ w₁) (around n g z odd i k)))

  digit-wrapped : (j : ℕ) → IsWrapped n (d j)
  unfolding d
  digit-wrapped j = subst (λ (l : ℕ). IsWrapped l (coefficients (digit_polynomial j ys))) len (digit-IsWrapped j ys (omega (arith, len)))

  zero-IsWrapped : IsWrapped n (λ k. pos 0)
  zero-IsWrapped k = refl

  w : ℕ → ℤ
  w j = below digit_count j (pos (digit_base ^ j))

  digits_are : (k : ℤ) → sums digit_count (λ j x. cut digit_count d j x *ℤ w j) k ≡ substituted i.by back k
  unfolding sums substituted d w back
  digits_are k =
      total-same digit_count (λ j. cut digit_count d j k *ℤ below digit_count j (pos (digit_base ^ j))) (λ j. coefficients (digit_polynomial j ys) k *ℤ pos (digit_base ^ j))
      (λ j u t. cut-in digit_count d j u t k *ℤ below-in digit_count j (pos (digit_base ^ j)) u t)
      ∙ digits-sum ys (omega (arith, len)) small k
      ∙ sym (period-congruent (n + n) (coefficients ys) (wrapped_period n (coefficients ys) ys-IsWrapped) (back_around n g z odd i k))

  good_is : (j : ℕ) (k : ℤ) → Congruent q (cut digit_count k₀ j k +ℤ product n (cut digit_count k₁ j) s k) (w j *ℤ substituted i.by s k +ℤ cut digit_count error j k)
  unfolding w error phase product
  good_is j k = ⊎_elim (λ u. inside u) (λ u. outside u) (cases_lt j digit_count)
    where
      inside : j < digit_count → Congruent q (cut digit_count k₀ j k +ℤ product n (cut digit_count k₁ j) s k) (below digit_count j (pos (digit_base ^ j)) *ℤ substituted i.by s k +ℤ cut digit_count error j k)
      inside u =
          cong-trans q (cong_from q (λ t. cut-in digit_count k₀ j u t k +ℤ product n (cut-in digit_count k₁ j u t) s k))
          (cong-trans q (cong_from q (parted (k₀ j k +ℤ product n (k₁ j) s k) (pos (digit_base ^ j) *ℤ substitution n g s k)))
          (cong-trans q (cong-add q (cong-refl q (pos (digit_base ^ j) *ℤ substitution n g s k)) (cong-sym q (centred-is q (k₀ j k +ℤ product n (k₁ j) s k -ℤ pos (digit_base ^ j) *ℤ substitution n g s k) (omega arith))))
          (cong_from q (λ t. sym (below-in digit_count j (pos (digit_base ^ j)) u) t *ℤ substitution-is n g z odd i s ws k t +ℤ sym (cut-in digit_count error j u) t k))))
        where
          parted : (x y : ℤ) → x ≡ y +ℤ (x -ℤ y)
          parted x y = omega (arith, linear)

      outside : digit_count ≤ j → Congruent q (cut digit_count k₀ j k +ℤ product n (cut digit_count k₁ j) s k) (below digit_count j (pos (digit_base ^ j)) *ℤ substituted i.by s k +ℤ cut digit_count error j k)
      outside u =
          cong-trans q (cong_from q (λ t. cut-out digit_count k₀ j u t k +ℤ product n (cut-out digit_count k₁ j u t) s k))
          (cong-trans q (cong_from q (ap (λ y. pos 0 +ℤ y) (total-none n (λ x. pos 0 *ℤ s (k -ℤ pos x)) (λ x l. none (s (k -ℤ pos x)))) ∙ sym (ap (λ y. y +ℤ pos 0) (none (substituted i.by s k)))))
          (cong_from q (λ t. sym (below-out digit_count j (pos (digit_base ^ j)) u) t *ℤ substituted i.by s k +ℤ sym (cut-out digit_count error j u) t k)))
        where
          none : (y : ℤ) → pos 0 *ℤ y ≡ pos 0
          none y = simp expand

  pub means_carried : (b : ℕ) → Means plain_modulus q n s c₀ c₁ m b
      → Means plain_modulus q n s (plus (substitution n g c₀) (λ k. total digit_count (λ j. product n (coefficients (digit_polynomial j ys)) (k₀ j) k)))
      (λ k. total digit_count (λ j. product n (coefficients (digit_polynomial j ys)) (k₁ j) k)) (substitution n g m) (b + plain_modulus * (digit_count * (n * ((digit_base - 1) * error_bound))))
  unfolding sums plus d error
  means_carried b h =
      let l = digit_count in
      let r = means_switched plain_modulus q n l (pos g) i.by w s c₀ back m (cut l d) (cut l k₀) (cut l k₁) (cut l error) b (digit_base - 1) error_bound (omega arith) z ws back-IsWrapped
      (cut_all (IsWrapped n) l d (λ j u. digit-wrapped j) zero-IsWrapped) (cut_all (IsWrapped n) l k₁ wk zero-IsWrapped)
      (turn i.is)
      digits_are good_is
      (cut_all (λ f. (k : ℤ) → unsigned_abs (f k) ≤ digit_base - 1) l d (λ j u k. digit-small j ys (omega (arith, len)) k) (λ k. omega arith))
      (cut_all (λ f. (k : ℤ) → unsigned_abs (f k) ≤ error_bound) l error (λ j u k. good j u k) (λ k. omega arith))
      (means_alike plain_modulus q n s c₀ c₁ c₀ back m b (omega arith) (λ k. cong-refl q (c₀ k)) back_agrees h) in
      moved r
      (λ t k. sym (substitution-is n g z odd i c₀ w₀ k) t +ℤ total-same l (λ j. product n (cut l d j) (cut l k₀ j) k) (λ j. product n (coefficients (digit_polynomial j ys)) (k₀ j) k) (λ j u v. product n (cut-in l d j u v) (cut-in l k₀ j u v) k) t)
      (λ t k. total-same l (λ j. product n (cut l d j) (cut l k₁ j) k) (λ j. product n (coefficients (digit_polynomial j ys)) (k₁ j) k) (λ j u v. product n (cut-in l d j u v) (cut-in l k₁ j u v) k) t)
      (λ t k. sym (substitution-is n g z odd i m wm k) t)
    where
      turn : Congruent (n + n) (i.by *ℤ pos g) (pos 1) → Congruent n (pos g *ℤ i.by) (pos 1)
      turn c = record { times = c.times +ℤ c.times; same = swapped i.by (pos g) ∙ c.same ∙ ap (λ y. pos 1 +ℤ y) (doubled c.times) }
        where
          swapped : (x y : ℤ) → y *ℤ x ≡ x *ℤ y
          swapped x y = simp expand

          doubled : (t : ℤ) → t *ℤ pos (n + n) ≡ (t +ℤ t) *ℤ pos n
          doubled t = let two : pos (n + n) ≡ pos n +ℤ pos n = omega (arith, linear) in ap (λ y. t *ℤ y) two ∙ simp expand

      moved : {a₀ a₁ e₀ e₁ x y : ℤ → ℤ} {b : ℕ} → Means plain_modulus q n s a₀ a₁ x b → a₀ ≡ e₀ → a₁ ≡ e₁ → x ≡ y → Means plain_modulus q n s e₀ e₁ y b
      moved {a₀} {a₁} {e₀} {e₁} {x} {y} {b} r e f g =
          subst (λ (v : ℤ → ℤ). Means plain_modulus q n s e₀ e₁ v b) g (subst (λ (v : ℤ → ℤ). Means plain_modulus q n s e₀ v x b) f (subst (λ (v : ℤ → ℤ). Means plain_modulus q n s v a₁ x b) e r))
