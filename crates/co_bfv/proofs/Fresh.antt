-- What a fresh ciphertext means.
use Rattle.std.proofs.Common.{◌≡◌, ℕ, ◌+◌, ◌*◌, ◌<◌, ◌≤◌, ◌∙◌, arith, ℤ, pos, ◌+ℤ◌, ◌-ℤ◌, ◌*ℤ◌}
use Rattle.std.proofs.lemmas.Int.{unsigned_abs-mul}
use Rattle.std.proofs.Math.Nat.{mul-le-mul_left}
use Rattle.std.specs.Int.RustNames.{unsigned_abs}
use lib.IntN.{neg_ℤ}
use Rattle.co_math.specs.Residues.{Congruent}
use Rattle.co_math.specs.Polynomials.{IsWrapped, plus, minus, product}
use Rattle.co_math.specs.Meanings.{phase, Means}
use Rattle.co_math.proofs.Integers.{linear, expand}
use Rattle.co_math.proofs.Residues.{cong-trans, cong-sym, cong-add, cong-refl, cong_from}
use Rattle.co_math.proofs.Bounds.{abs-add}
use Rattle.co_math.proofs.Agreements.{Agree}
use Rattle.co_math.proofs.Meanings.{means_by, cong-times}
use Rattle.co_math.proofs.Switched.{wrapped_bound}

-- c₀ is d + e - a * s modulo q, where t * d is near q * m and e is small
pub means_fresh : (t q n : ℕ) (s c₀ a d e m : ℤ → ℤ) (h y : ℕ) → 0 < t * q → 0 < n → IsWrapped n d → IsWrapped n m → Agree q c₀ (minus (plus d e) (product n a s))
    → ((k : ℕ) → k < n → unsigned_abs (pos t *ℤ d (pos k) -ℤ pos q *ℤ m (pos k)) ≤ h) → ((k : ℤ) → unsigned_abs (e k) ≤ y)
    → Means t q n s c₀ a m (h + t * y)
unfolding minus plus phase
means_fresh t q n s c₀ a d e m h y p z wd wm f near small =
    means_by t q n s c₀ a m (h + t * y) (λ k. off k +ℤ pos t *ℤ e k) p
    (λ k. omega (arith, abs-add (off k) (pos t *ℤ e k), unsigned_abs-mul (pos t) (e k), mul-le-mul_left t (small k), wrapped_bound n off h z off-IsWrapped near k))
    (λ k. cong-trans (t * q) (cong_from (t * q) (joint (pos t) (pos q) (d k) (e k) (m k)))
    (cong-add (t * q) (cong-sym (t * q) (cong-times t q (phases k))) (cong-refl (t * q) (neg_ℤ (pos q *ℤ m k)))))
  where
    off : ℤ → ℤ
    off k = pos t *ℤ d k -ℤ pos q *ℤ m k

    turned : (x y : ℤ) → x -ℤ y +ℤ y ≡ x
    turned x y = omega (arith, linear)

    opposite : (t q a b : ℤ) → t *ℤ neg_ℤ a -ℤ q *ℤ neg_ℤ b ≡ neg_ℤ (t *ℤ a -ℤ q *ℤ b)
    opposite t q a b = simp expand (omega (arith, linear))

    off-IsWrapped : IsWrapped n off
    off-IsWrapped k = (λ i. pos t *ℤ wd k i -ℤ pos q *ℤ wm k i) ∙ opposite (pos t) (pos q) (d k) (m k)

    joint : (t q d e m : ℤ) → t *ℤ d -ℤ q *ℤ m +ℤ t *ℤ e ≡ t *ℤ (d +ℤ e) -ℤ q *ℤ m
    joint t q d e m = simp expand (omega (arith, linear))

    phases : (k : ℤ) → Congruent q (c₀ k +ℤ product n a s k) (d k +ℤ e k)
    phases k = cong-trans q (cong-add q (f k) (cong-refl q (product n a s k))) (cong_from q (turned (d k +ℤ e k) (product n a s k)))
