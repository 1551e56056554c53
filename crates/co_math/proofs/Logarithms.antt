-- The least number that passes a test, and logarithms to base 2.
use Rattle.std.proofs.Common.{◌≡◌, ℕ, zero, suc, ◌+◌, ◌^◌, ◌<◌, ◌≤◌, Bool, true, false, refl, sym, ap, ◌∙◌, ⊎_elim, arith}
use Rattle.std.specs.Prelude.{nat_le}
use Rattle.std.proofs.lemmas.Bool.{cases_lt, le-leb, leb-true}
use Rattle.std.proofs.lemmas.Nat.{pow_pos}
use Rattle.std.proofs.Math.Pow.{pow-lt}
use mathlib.Core.Bool.{true≢false}
use Rattle.co_math.specs.Logarithms.{least, log2_up, IsLogarithm}

-- where some place passes, the least one does, and is no later
record IsLeast (p : ℕ → Bool) (at more l : ℕ) : Type 0 where
  pub most : least p at more ≤ l
  pub passes : p (least p at more) ≡ true

here : (p : ℕ → Bool) (at more l : ℕ) (b : Bool) → p at ≡ b → at ≤ l → (p at ≡ false → IsLeast p (at + 1) more l) → IsLeast p at (suc more) l
unfolding least
here p at more l true e low rest = record { most = rw e low; passes = rw e e }
here p at more l false e low rest = let r = rest e in record { most = rw e r.most; passes = rw e r.passes }

found : (p : ℕ → Bool) (at more l : ℕ) → at ≤ l → l ≤ at + more → p l ≡ true → IsLeast p at more l
unfolding least
found p at zero l low high h =
    let e : at ≡ l = omega arith in
    record { most = low; passes = ap p e ∙ h }
found p at (suc more) l low high h =
    here p at more l (p at) refl low
    (λ e. found p (at + 1) more l (⊎_elim (λ u. omega arith) (λ u. let same : l ≡ at = omega arith in absurd (true≢false (sym h ∙ ap p same ∙ e))) (cases_lt at l)) (omega arith) h)

below_power : (n : ℕ) → n ≤ 2 ^ n
below_power zero = omega arith
below_power (suc n) = omega (arith, below_power n, pow_pos n)

passing : (n l : ℕ) → l ≤ n → n ≤ 2 ^ l → IsLeast (λ k. nat_le n (2 ^ k)) 0 n l
passing n l few h = found (λ k. nat_le n (2 ^ k)) 0 n l (omega arith) (omega arith) (le-leb n (2 ^ l) h)

pub log2_up-is : (n : ℕ) → IsLogarithm n (log2_up n)
unfolding log2_up
log2_up-is n =
    let f = passing n n (omega arith) (below_power n) in
    record {
      reaches = leb-true n (2 ^ log2_up n) f.passes;
      least = λ k h. ⊎_elim (λ u. let g = passing n k (omega arith) h in g.most) (λ u. omega (arith, f.most)) (cases_lt k n);
    }

-- there is one logarithm
pub logarithm_unique : (n l : ℕ) → IsLogarithm n l → l ≡ log2_up n
logarithm_unique n l h =
    let g = log2_up-is n in
    omega (arith, h.least (log2_up n) g.reaches, g.least l h.reaches)

pub log2_up-le : (n l : ℕ) → n ≤ 2 ^ l → log2_up n ≤ l
log2_up-le n l h = let g = log2_up-is n in g.least l h

pub log2_up-pow : (l : ℕ) → log2_up (2 ^ l) ≡ l
log2_up-pow l = sym (logarithm_unique (2 ^ l) l (record {
  reaches = omega arith;
  least = λ k h. ⊎_elim (λ u. let less = pow-lt u in absurd (omega arith)) (λ u. u) (cases_lt k l);
}))

-- what no lesser power reaches
pub first_logarithm : (n l : ℕ) → ((k : ℕ) → k < l → 2 ^ k < n) → n ≤ 2 ^ l → IsLogarithm n l
first_logarithm n l before h = record {
  reaches = h;
  least = λ k u. ⊎_elim (λ v. absurd (omega (arith, before k v))) (λ v. v) (cases_lt k l);
}
