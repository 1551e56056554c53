-- Decryption gives what a ciphertext means.
use Rattle.std.proofs.Common.{◌≡◌, ℕ, ◌+◌, ◌*◌, ◌/◌, ◌%◌, ◌<◌, subst, arith, ℤ, pos, ◌+ℤ◌, ◌-ℤ◌, ◌*ℤ◌}
use Rattle.co_math.specs.Residues.{residue, Congruent}
use Rattle.co_math.specs.Meanings.{phase, noise, Means}
use Rattle.co_math.proofs.Integers.{linear}
use Rattle.co_math.proofs.Residues.{cong-trans, cong-sym, cong-add, cong_from, residue-is, residue-lt}
use Rattle.co_math.proofs.Noise.{decrypted_at}
use Rattle.co_math.proofs.Meanings.{noise-is, cong-times}

pub decoded : (t q n : ℕ) (s c₀ c₁ m : ℤ → ℤ) (b : ℕ) (k : ℤ) → 0 < t → 0 < q → 0 < t * q → Means t q n s c₀ c₁ m b → 2 * b < q
    → (2 * t * residue q (phase n s c₀ c₁ k) + q) / (2 * q) % t ≡ residue t (m k)
decoded t q n s c₀ c₁ m b k zt zq z h l =
    decrypted_at t q p r b c.times e zq (residue-lt t (m k) zt) (residue-lt q (phase n s c₀ c₁ k) zq) c.same (h.within k) l
  where
    p : ℕ
    p = residue q (phase n s c₀ c₁ k)

    r : ℕ
    r = residue t (m k)

    e : ℤ
    e = noise t q n s c₀ c₁ m k

    message : Congruent (t * q) (pos q *ℤ pos r) (pos q *ℤ m k)
    message =
        let turn : q * t ≡ t * q = omega arith in
        subst (λ (j : ℕ). Congruent j (pos q *ℤ pos r) (pos q *ℤ m k)) turn (cong-times q t (residue-is t (m k) zt))

    apart : (x y : ℤ) → x ≡ y +ℤ (x -ℤ y)
    apart x y = omega (arith, linear)

    c : Congruent (t * q) (pos t *ℤ pos p) (pos q *ℤ pos r +ℤ e)
    c =
        cong-trans (t * q) (cong-times t q (residue-is q (phase n s c₀ c₁ k) zq))
        (cong-trans (t * q) (cong_from (t * q) (apart (pos t *ℤ phase n s c₀ c₁ k) (pos q *ℤ m k)))
        (cong-sym (t * q) (cong-add (t * q) message (noise-is t q n s c₀ c₁ m z k))))
