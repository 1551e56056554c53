-- What sums, differences and products of ciphertexts mean.
use Rattle.std.proofs.Common.{◌≡◌, ℕ, ◌+◌, ◌*◌, ◌<◌, ◌≤◌, sym, ap, subst, ◌∙◌, arith, ℤ, pos, ◌+ℤ◌, ◌-ℤ◌, ◌*ℤ◌}
use Rattle.std.specs.Int.RustNames.{unsigned_abs}
use lib.IntN.{neg_ℤ}
use Rattle.co_math.specs.Residues.{Congruent}
use Rattle.co_math.specs.Sums.{total}
use Rattle.co_math.specs.Polynomials.{IsWrapped, plus, minus, product}
use Rattle.co_math.specs.Meanings.{phase, noise, Means}
use Rattle.co_math.proofs.Integers.{linear, expand, zero-mul}
use Rattle.co_math.proofs.Residues.{cong-trans, cong-sym, cong-add, cong-neg, cong-refl, cong_from}
use Rattle.co_math.proofs.Totals.{total-same, total-add, total-neg, total-none}
use Rattle.co_math.proofs.Bounds.{abs-add, abs-neg}
use Rattle.co_math.proofs.Polynomials.{product_comm, product_assoc, product-plus}
use Rattle.co_math.proofs.Agreements.{Agree, product_agree}
use Rattle.co_math.proofs.Meanings.{means_by, means_sum, noise-is, cong-times}
use Rattle.co_math.proofs.Switched.{means_product}

zero-product : (n : ℕ) (s : ℤ → ℤ) (k : ℤ) → product n (λ _. pos 0) s k ≡ pos 0
unfolding product
zero-product n s k = total-none n (λ i. pos 0 *ℤ s (k -ℤ pos i)) (λ i l. zero-mul (s (k -ℤ pos i)))

pub plus-product : (n : ℕ) (a b s : ℤ → ℤ) (k : ℤ) → product n (plus a b) s k ≡ product n a s k +ℤ product n b s k
unfolding product plus
plus-product n a b s k =
    total-same n (λ i. (a (pos i) +ℤ b (pos i)) *ℤ s (k -ℤ pos i)) (λ i. a (pos i) *ℤ s (k -ℤ pos i) +ℤ b (pos i) *ℤ s (k -ℤ pos i)) (λ i l. simp expand)
    ∙ total-add n (λ i. a (pos i) *ℤ s (k -ℤ pos i)) (λ i. b (pos i) *ℤ s (k -ℤ pos i))

pub minus-product : (n : ℕ) (a b s : ℤ → ℤ) (k : ℤ) → product n (minus a b) s k ≡ product n a s k -ℤ product n b s k
unfolding product minus
minus-product n a b s k =
    total-same n (λ i. (a (pos i) -ℤ b (pos i)) *ℤ s (k -ℤ pos i)) (λ i. a (pos i) *ℤ s (k -ℤ pos i) +ℤ neg_ℤ (b (pos i) *ℤ s (k -ℤ pos i))) (λ i l. simp expand)
    ∙ total-add n (λ i. a (pos i) *ℤ s (k -ℤ pos i)) (λ i. neg_ℤ (b (pos i) *ℤ s (k -ℤ pos i)))
    ∙ ap (λ y. total n (λ i. a (pos i) *ℤ s (k -ℤ pos i)) +ℤ y) (total-neg n (λ i. b (pos i) *ℤ s (k -ℤ pos i)))

-- two parts that are 0 modulo q
pub means_nothing : (t q n : ℕ) (s c₀ c₁ : ℤ → ℤ) → 0 < t * q → Agree q c₀ (λ _. pos 0) → Agree q c₁ (λ _. pos 0) → Means t q n s c₀ c₁ (λ _. pos 0) 0
unfolding phase
means_nothing t q n s c₀ c₁ p f g =
    means_by t q n s c₀ c₁ (λ _. pos 0) 0 (λ _. pos 0) p (λ k. omega arith)
    (λ k. cong-sym (t * q) (cong-trans (t * q) (cong-add (t * q) (cong-times t q (phases k)) (cong-refl (t * q) (neg_ℤ (pos q *ℤ pos 0)))) (cong_from (t * q) (none (pos t) (pos q)))))
  where
    none : (t q : ℤ) → t *ℤ pos 0 -ℤ q *ℤ pos 0 ≡ pos 0
    none t q = simp expand

    nothing : (k : ℤ) → product n (λ _. pos 0) s k ≡ pos 0
    nothing k = zero-product n s k

    phases : (k : ℤ) → Congruent q (c₀ k +ℤ product n c₁ s k) (pos 0)
    phases k = cong-add q (f k) (cong-trans q (product_agree q n c₁ s (λ _. pos 0) s g (λ j. cong-refl q (s j)) k) (cong_from q (nothing k)))

-- both parts agree with the sums of the parts
pub means_plus : (t q n : ℕ) (s c₀ c₁ d₀ d₁ e₀ e₁ a b : ℤ → ℤ) (x y : ℕ) → 0 < t * q → Agree q e₀ (plus c₀ d₀) → Agree q e₁ (plus c₁ d₁)
    → Means t q n s c₀ c₁ a x → Means t q n s d₀ d₁ b y → Means t q n s e₀ e₁ (plus a b) (x + y)
unfolding plus phase
means_plus t q n s c₀ c₁ d₀ d₁ e₀ e₁ a b x y p f g h i =
    means_sum t q n s c₀ c₁ d₀ d₁ e₀ e₁ a b x y p h i
    (λ k. cong-trans q (cong-add q (f k) (product_agree q n e₁ s (plus c₁ d₁) s g (λ j. cong-refl q (s j)) k))
    (cong_from q (ap (λ v. c₀ k +ℤ d₀ k +ℤ v) (plus-product n c₁ d₁ s k) ∙ joint (c₀ k) (d₀ k) (product n c₁ s k) (product n d₁ s k))))
  where
    joint : (a b c d : ℤ) → a +ℤ b +ℤ (c +ℤ d) ≡ a +ℤ c +ℤ (b +ℤ d)
    joint a b c d = omega (arith, linear)

-- both parts agree with the differences of the parts
pub means_minus : (t q n : ℕ) (s c₀ c₁ d₀ d₁ e₀ e₁ a b : ℤ → ℤ) (x y : ℕ) → 0 < t * q → Agree q e₀ (minus c₀ d₀) → Agree q e₁ (minus c₁ d₁)
    → Means t q n s c₀ c₁ a x → Means t q n s d₀ d₁ b y → Means t q n s e₀ e₁ (minus a b) (x + y)
unfolding minus phase
means_minus t q n s c₀ c₁ d₀ d₁ e₀ e₁ a b x y p f g h i =
    means_by t q n s e₀ e₁ (minus a b) (x + y) (λ k. noise t q n s c₀ c₁ a k -ℤ noise t q n s d₀ d₁ b k) p
    (λ k. omega (arith, abs-add (noise t q n s c₀ c₁ a k) (neg_ℤ (noise t q n s d₀ d₁ b k)), abs-neg (noise t q n s d₀ d₁ b k), h.within k, i.within k))
    (λ k. cong-trans (t * q) (cong-add (t * q) (noise-is t q n s c₀ c₁ a p k) (cong-neg (t * q) (noise-is t q n s d₀ d₁ b p k)))
    (cong-trans (t * q) (cong_from (t * q) (joint (pos t) (pos q) (phase n s c₀ c₁ k) (phase n s d₀ d₁ k) (a k) (b k)))
    (cong-add (t * q) (cong-sym (t * q) (cong-times t q (phases k))) (cong-refl (t * q) (neg_ℤ (pos q *ℤ (a k -ℤ b k)))))))
  where
    joint : (t q c d a b : ℤ) → t *ℤ c -ℤ q *ℤ a -ℤ (t *ℤ d -ℤ q *ℤ b) ≡ t *ℤ (c -ℤ d) -ℤ q *ℤ (a -ℤ b)
    joint t q c d a b = simp expand (omega (arith, linear))

    turned : (a b c d : ℤ) → a -ℤ b +ℤ (c -ℤ d) ≡ a +ℤ c -ℤ (b +ℤ d)
    turned a b c d = omega (arith, linear)

    phases : (k : ℤ) → Congruent q (phase n s e₀ e₁ k) (phase n s c₀ c₁ k -ℤ phase n s d₀ d₁ k)
    phases k = cong-trans q (cong-add q (f k) (product_agree q n e₁ s (minus c₁ d₁) s g (λ j. cong-refl q (s j)) k))
        (cong_from q (ap (λ v. c₀ k -ℤ d₀ k +ℤ v) (minus-product n c₁ d₁ s k) ∙ turned (c₀ k) (d₀ k) (product n c₁ s k) (product n d₁ s k)))

-- phases of parts that agree
pub phases_agree : (q n : ℕ) (s c₀ c₁ d₀ d₁ : ℤ → ℤ) → Agree q c₀ d₀ → Agree q c₁ d₁ → Agree q (phase n s c₀ c₁) (phase n s d₀ d₁)
unfolding phase
phases_agree q n s c₀ c₁ d₀ d₁ f g k = cong-add q (f k) (product_agree q n c₁ s d₁ s g (λ j. cong-refl q (s j)) k)

pub same_first : (n : ℕ) (a b s : ℤ → ℤ) (k : ℤ) → ((i : ℤ) → a i ≡ b i) → product n a s k ≡ product n b s k
unfolding product
same_first n a b s k h = total-same n (λ i. a (pos i) *ℤ s (k -ℤ pos i)) (λ i. b (pos i) *ℤ s (k -ℤ pos i)) (λ i l. ap (λ v. v *ℤ s (k -ℤ pos i)) (h (pos i)))

-- the phase of the products is the product of the phase
phase-product : (n : ℕ) (s c₀ c₁ p : ℤ → ℤ) → 0 < n → IsWrapped n s → IsWrapped n c₀ → IsWrapped n c₁ → IsWrapped n p
    → (k : ℤ) → phase n s (product n c₀ p) (product n c₁ p) k ≡ product n p (phase n s c₀ c₁) k
unfolding phase plus
phase-product n s c₀ c₁ p z ws w₀ w₁ wp k =
    (λ i. product_comm n c₀ p z w₀ wp k i +ℤ (first i))
    ∙ sym (product-plus n p c₀ (product n c₁ s) k)
  where
    first : product n (product n c₁ p) s k ≡ product n p (product n c₁ s) k
    first = same_first n (product n c₁ p) (product n p c₁) s k (product_comm n c₁ p z w₁ wp) ∙ product_assoc n p c₁ s z wp w₁ ws k

-- both parts agree with their products with p
pub means_times : (t q n : ℕ) (s c₀ c₁ d₀ d₁ m p : ℤ → ℤ) (x b : ℕ) → 0 < t * q → 0 < n → IsWrapped n s → IsWrapped n c₀ → IsWrapped n c₁ → IsWrapped n p
    → Agree q d₀ (product n c₀ p) → Agree q d₁ (product n c₁ p) → ((k : ℤ) → unsigned_abs (p k) ≤ x)
    → Means t q n s c₀ c₁ m b → Means t q n s d₀ d₁ (product n p m) (n * (x * b))
means_times t q n s c₀ c₁ d₀ d₁ m p x b z y ws w₀ w₁ wp f g h i =
    means_product t q n s c₀ c₁ d₀ d₁ m p x b z i h
    (λ k. cong-trans q (agree k) (cong_from q (phase-product n s c₀ c₁ p y ws w₀ w₁ wp k)))
  where
    agree : (k : ℤ) → Congruent q (phase n s d₀ d₁ k) (phase n s (product n c₀ p) (product n c₁ p) k)
    agree = phases_agree q n s d₀ d₁ (product n c₀ p) (product n c₁ p) f g

-- a message counts modulo t
pub means_same : (t q n : ℕ) (s c₀ c₁ m o : ℤ → ℤ) (b : ℕ) → 0 < t * q → Agree t m o → Means t q n s c₀ c₁ m b → Means t q n s c₀ c₁ o b
means_same t q n s c₀ c₁ m o b p f g =
    means_by t q n s c₀ c₁ o b (noise t q n s c₀ c₁ m) p g.within
    (λ k. cong-trans (t * q) (noise-is t q n s c₀ c₁ m p k) (cong-add (t * q) (cong-refl (t * q) (pos t *ℤ phase n s c₀ c₁ k)) (cong-neg (t * q) (times k))))
  where
    turn : q * t ≡ t * q
    turn = omega arith

    times : (k : ℤ) → Congruent (t * q) (pos q *ℤ m k) (pos q *ℤ o k)
    times k = subst (λ (j : ℕ). Congruent j (pos q *ℤ m k) (pos q *ℤ o k)) turn (cong-times q t (f k))

-- a greater bound
pub means_more : (t q n : ℕ) (s c₀ c₁ m : ℤ → ℤ) (b d : ℕ) → b ≤ d → Means t q n s c₀ c₁ m b → Means t q n s c₀ c₁ m d
means_more t q n s c₀ c₁ m b d l g = record { within = λ k. omega (arith, l, g.within k) }
