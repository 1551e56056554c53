-- What a degree is, as a power of two and as a test.
use Rattle.std.proofs.Common.{◌≡◌, ℕ, suc, ◌-◌, ◌*◌, ◌/◌, ◌^◌, ◌<◌, ◌≤◌, Bool, true, false, refl, sym, ap, subst, ◌∙◌, inl, inr, ◌⊎◌, ⊎_elim, arith}
use Rattle.std.specs.Prelude.{IsTrue, ◌||◌, ◌==◌}
use Rattle.std.proofs.lemmas.Bool.{eqb-true, cases_eq}
use Rattle.std.proofs.lemmas.Nat.{pow_pos}
use Rattle.std.proofs.Math.Nat.{pow-le-pow_right}
use Rattle.co_math.specs.Parameters.{most_exponent}
use Rattle.co_math.specs.Degrees.{IsDegree, is_degree}

-- n is 2, 4, 8 ..
pub record IsPowerOfTwo (n : ℕ) : Type 0 where
  pub exponent : ℕ
  pub is : n ≡ 2 ^ suc exponent

pub power_of_two : (n : ℕ) → IsDegree n → IsPowerOfTwo n
power_of_two n d = record { exponent = d.exponent - 1; is = d.is ∙ ap (λ e. 2 ^ e) (omega (arith, d.least)) }

pub degree_positive : (n : ℕ) → IsDegree n → 0 < n
degree_positive n d = omega (arith, d.is, pow_pos d.exponent)

pub degree_most : (n : ℕ) → IsDegree n → n ≤ 4096
degree_most n d =
    let two : 0 < 2 = omega arith in
    let p : 2 ^ d.exponent ≤ 2 ^ most_exponent = pow-le-pow_right {n = 2} two {i = d.exponent} {j = most_exponent} d.most in
    omega (arith, d.is, p)

-- ---- the test

-- what a degree tells
pub record Degree (n : ℕ) : Type 0 where
  pub degree : IsDegree n
  pub low : 16 ≤ n
  pub high : n ≤ 4096
  pub even : 2 * (n / 2) ≡ n

power_degree : (n d e : ℕ) → 4 ≤ e → e ≤ 12 → d ≡ 2 ^ e → 16 ≤ d → d ≤ 4096 → 2 * (d / 2) ≡ d → IsTrue (n == d) → Degree n
power_degree n d e least most is low high even h =
    subst Degree (sym (eqb-true n d h)) (record { degree = record { exponent = e; least = least; most = most; is = is }; low = low; high = high; even = even })

either : (a b : Bool) → IsTrue (a || b) → IsTrue a ⊎ IsTrue b
either true b h = inl refl
either false b h = inr h

last : (n d e : ℕ) (b : Bool) → 4 ≤ e → e ≤ 12 → d ≡ 2 ^ e → 16 ≤ d → d ≤ 4096 → 2 * (d / 2) ≡ d → (IsTrue b → Degree n) → IsTrue (b || (n == d)) → Degree n
last n d e b least most is low high even before h = elim (either b (n == d) h) [ inl x ↦ before x | inr x ↦ power_degree n d e least most is low high even x ]

-- a number that passes is a degree
pub degree_ranges : (n : ℕ) → IsTrue (is_degree n) → Degree n
degree_ranges n h =
    last n 4096 12 _ (omega arith) (omega arith) refl (omega arith) (omega arith) refl (
    last n 2048 11 _ (omega arith) (omega arith) refl (omega arith) (omega arith) refl (
    last n 1024 10 _ (omega arith) (omega arith) refl (omega arith) (omega arith) refl (
    last n 512 9 _ (omega arith) (omega arith) refl (omega arith) (omega arith) refl (
    last n 256 8 _ (omega arith) (omega arith) refl (omega arith) (omega arith) refl (
    last n 128 7 _ (omega arith) (omega arith) refl (omega arith) (omega arith) refl (
    last n 64 6 _ (omega arith) (omega arith) refl (omega arith) (omega arith) refl (
    last n 32 5 _ (omega arith) (omega arith) refl (omega arith) (omega arith) refl (
    power_degree n 16 4 (omega arith) (omega arith) refl (omega arith) (omega arith) refl))))))))
    h

-- a degree passes
pub degree_passes : (n : ℕ) → IsDegree n → IsTrue (is_degree n)
degree_passes n d = subst (λ (k : ℕ). IsTrue (is_degree k)) (sym d.is) (passes d.exponent d.least d.most)
  where
    at : (e k : ℕ) → IsTrue (is_degree (2 ^ k)) → e ≡ k → IsTrue (is_degree (2 ^ e))
    at e k h same = subst (λ (j : ℕ). IsTrue (is_degree (2 ^ j))) (sym same) h

    passes : (e : ℕ) → 4 ≤ e → e ≤ 12 → IsTrue (is_degree (2 ^ e))
    passes e low high =
        ⊎_elim (at e 4 refl) (λ u4. ⊎_elim (at e 5 refl) (λ u5. ⊎_elim (at e 6 refl) (λ u6. ⊎_elim (at e 7 refl) (λ u7.
        ⊎_elim (at e 8 refl) (λ u8. ⊎_elim (at e 9 refl) (λ u9. ⊎_elim (at e 10 refl) (λ u10. ⊎_elim (at e 11 refl) (λ u11.
        at e 12 refl (omega arith))
        (cases_eq e 11)) (cases_eq e 10)) (cases_eq e 9)) (cases_eq e 8)) (cases_eq e 7)) (cases_eq e 6)) (cases_eq e 5)) (cases_eq e 4)
