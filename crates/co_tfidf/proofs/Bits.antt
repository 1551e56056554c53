-- The greatest number that passes a test.
use Rattle.std.proofs.Common.{◌≡◌, ℕ, zero, suc, ◌+◌, ◌*◌, ◌^◌, ◌<◌, ◌≤◌, Bool, true, false, cond, sym, ap, ◌∙◌, arith, inl, inr, ◌⊎◌}
use Rattle.std.proofs.Math.Nat.{pow-le-pow_right, mul-le-mul_right, le-suc_iff}
use Rattle.std.proofs.lemmas.Bool.{le-leb, lt-leb}
use Rattle.co_tfidf.specs.Weight.{highest, bits}

turned : {A B : Type 0} → A ⊎ B → B ⊎ A
turned (inl a) = inr a
turned (inr b) = inl b

-- r is n + 1 or at most n
split : (n r : ℕ) → r ≤ suc n → (r ≡ suc n) ⊎ (r ≤ n)
split n r le = turned (le-suc_iff.0 le)

highest_step : (n r : ℕ) (p : ℕ → Bool) → p r ≡ true → (r ≤ n → highest n p ≡ r) → ((k : ℕ) → r < k → k ≤ suc n → p k ≡ false)
    → (r ≡ suc n) ⊎ (r ≤ n) → cond (p (suc n)) (suc n) (highest n p) ≡ r
highest_step n r p passes below above (inl same) = rw (ap p (sym same) ∙ passes) (sym same)
highest_step n r p passes below above (inr less) = rw (above (suc n) (omega arith) (omega arith)) (below less)

-- where r passes and nothing above it does, it is r
pub highest_is : (n r : ℕ) (p : ℕ → Bool) → r ≤ n → p r ≡ true → ((k : ℕ) → r < k → k ≤ n → p k ≡ false) → highest n p ≡ r
highest_is zero r p le passes above = omega arith
highest_is (suc n) r p le passes above =
    highest_step n r p passes (λ h. highest_is n r p h passes (λ k a b. above k a (omega arith))) above (split n r le)

pub bits_is : (d f r : ℕ) → r ≤ 64 → 2 ^ r * f ^ 4 ≤ d ^ 4 → d ^ 4 < 2 ^ (r + 1) * f ^ 4 → bits d f ≡ r
unfolding bits
bits_is d f r le reached over = highest_is 64 r _ le (le-leb _ _ reached) (λ k a b.
    let up : r + 1 ≤ k = omega arith in
    let two : 0 < 2 = omega arith in
    let more : 2 ^ (r + 1) * f ^ 4 ≤ 2 ^ k * f ^ 4 = mul-le-mul_right (f ^ 4) (pow-le-pow_right two up) in
    let below : d ^ 4 < 2 ^ k * f ^ 4 = omega arith in
    lt-leb _ _ below)

-- what passes at the next number passes at each above it
pub over_above : (d f r i : ℕ) → d ^ 4 < 2 ^ (r + 1) * f ^ 4 → r < i → d ^ 4 < 2 ^ i * f ^ 4
over_above d f r i over above =
    let up : r + 1 ≤ i = omega arith in
    let two : 0 < 2 = omega arith in
    let more : 2 ^ (r + 1) * f ^ 4 ≤ 2 ^ i * f ^ 4 = mul-le-mul_right (f ^ 4) (pow-le-pow_right two up) in
    omega (arith, more, over)
