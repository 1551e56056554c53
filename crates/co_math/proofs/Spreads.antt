-- Polynomials by their first coefficients.
use Rattle.std.proofs.Common.{◌≡◌, ℕ, ◌+◌, ◌-◌, ◌<◌, ◌≤◌, ◌≢◌, refl, sym, ap, ◌∙◌, ⊎_elim, arith, ℤ, pos, ◌+ℤ◌, ◌-ℤ◌, ◌*ℤ◌, cond, ltb}
use Rattle.std.proofs.lemmas.Bool.{cases_lt}
use Rattle.std.proofs.lemmas.Bool.Decides.{nat_tests}
use lib.IntN.{neg_ℤ, neg_ℤ-neg_ℤ}
use Rattle.co_math.specs.Residues.{residue}
use Rattle.co_math.specs.Polynomials.{IsWrapped, product, spread, unit, one_at}
use Rattle.co_math.proofs.Integers.{linear, expand}
use Rattle.co_math.proofs.Residues.{cong-sym, cong-add, cong-refl, residue-is, residue-lt, residue-same, residue_small}
use Rattle.co_math.proofs.Totals.{total-single}

-- the coefficient at a residue r modulo 2n
half : ℕ → (ℕ → ℤ) → ℕ → ℤ
half n c r = cond (ltb r n) (c r) (neg_ℤ (c (r - n)))

half-low : (n : ℕ) (c : ℕ → ℤ) (r : ℕ) → r < n → half n c r ≡ c r
unfolding half
half-low n c r l = grind (arith, nat_tests)

half-high : (n : ℕ) (c : ℕ → ℤ) (r : ℕ) → n ≤ r → half n c r ≡ neg_ℤ (c (r - n))
unfolding half
half-high n c r l = grind (arith, nat_tests)

spread_half : (n : ℕ) (c : ℕ → ℤ) (k : ℤ) → spread n c k ≡ half n c (residue (n + n) k)
unfolding spread half
spread_half n c k = refl

pub spread-low : (n : ℕ) (c : ℕ → ℤ) (k : ℕ) → k < n → spread n c (pos k) ≡ c k
spread-low n c k l = spread_half n c (pos k) ∙ ap (half n c) (residue_small (n + n) k (omega arith)) ∙ half-low n c k l

next_residue : (n : ℕ) → 0 < n → (k : ℤ) → residue (n + n) (k +ℤ pos n) ≡ residue (n + n) (pos (residue (n + n) k + n))
next_residue n z k = residue-same (n + n) (k +ℤ pos n) (pos (residue (n + n) k + n)) (omega arith) (cong-add (n + n) (cong-sym (n + n) (residue-is (n + n) k (omega arith))) (cong-refl (n + n) (pos n)))

around : (n r : ℕ) → n ≤ r → r < n + n → residue (n + n) (pos (r + n)) ≡ r - n
around n r l u = residue-same (n + n) (pos (r + n)) (pos (r - n)) (omega arith) (record { times = pos 1; same = omega (arith, linear) }) ∙ residue_small (n + n) (r - n) (omega arith)

half-next : (n : ℕ) (c : ℕ → ℤ) (r : ℕ) → r < n + n → half n c (residue (n + n) (pos (r + n))) ≡ neg_ℤ (half n c r)
half-next n c r u = ⊎_elim
    (λ l. ap (half n c) (residue_small (n + n) (r + n) (omega arith)) ∙ half-high n c (r + n) (omega arith) ∙ ap (λ t. neg_ℤ (c t)) (omega arith) ∙ ap neg_ℤ (sym (half-low n c r l)))
    (λ l. ap (half n c) (around n r l u) ∙ half-low n c (r - n) (omega arith) ∙ sym (neg_ℤ-neg_ℤ (c (r - n))) ∙ ap neg_ℤ (sym (half-high n c r l)))
    (cases_lt r n)

pub spread-IsWrapped : (n : ℕ) (c : ℕ → ℤ) → 0 < n → IsWrapped n (spread n c)
spread-IsWrapped n c z k =
    spread_half n c (k +ℤ pos n) ∙ ap (half n c) (next_residue n z k)
    ∙ half-next n c (residue (n + n) k) (residue-lt (n + n) k (omega arith)) ∙ ap neg_ℤ (sym (spread_half n c k))

other : (i : ℕ) → i ≢ 0 → one_at i ≡ pos 0
other i ne = grind (arith, nat_tests)

pub product-unit : (n : ℕ) (a : ℤ → ℤ) → 0 < n → (k : ℤ) → product n (unit n) a k ≡ a k
unfolding product unit
product-unit n a z k =
    total-single n (λ i. spread n one_at (pos i) *ℤ a (k -ℤ pos i)) 0 z
    (λ i l ne. ap (λ t. t *ℤ a (k -ℤ pos i)) (spread-low n one_at i l ∙ other i ne) ∙ simp expand)
    ∙ ap (λ t. t *ℤ a (k -ℤ pos 0)) (spread-low n one_at 0 z)
    ∙ simp expand (ap a (omega (arith, linear)))

pub unit-IsWrapped : (n : ℕ) → 0 < n → IsWrapped n (unit n)
unfolding unit
unit-IsWrapped n z = spread-IsWrapped n one_at z
