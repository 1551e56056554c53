-- Payloads so far.
use Rattle.std.proofs.Common.{◌≡◌, ℕ, ◌+◌, ◌*◌, ◌%◌, ◌/◌, ◌<◌, ◌≢◌, sym, subst, ◌∙◌, ⊎_elim, arith, List, length, get_or}
use Rattle.std.proofs.lemmas.List.{ext_get_or}
use Rattle.std.proofs.lemmas.Bool.{cases_lt}
use Rattle.co_slots.specs.Payloads.{IsPayload}

pub record IsPayloadSoFar (i : ℕ) (bytes coeffs : List ℕ) : Type 0 where
  pub each : (k : ℕ) → k < i → get_or coeffs k 0 ≡ 256 * get_or bytes (2 * k) 0 + get_or bytes (2 * k + 1) 0
  pub before : (k : ℕ) → k < i → get_or coeffs k 0 ≢ 65536

-- two bytes are known from their coefficient
two_bytes : (c a b x y : ℕ) → c ≡ 256 * a + b → c ≡ 256 * x + y → b < 256 → y < 256 → (a ≡ x) × (b ≡ y)
two_bytes c a b x y e f l u = (omega arith, omega arith)

-- the bytes of a payload are one list
pub payload-bytes_unique : (bytes others coeffs : List ℕ) → IsPayload bytes coeffs → IsPayload others coeffs → bytes ≡ others
payload-bytes_unique bytes others coeffs h i =
    ext_get_or 0 bytes others (h.len ∙ sym i.len)
    (λ j u. ⊎_elim
    (λ v.
    let even : 2 * (j / 2) ≡ j = omega arith in
    subst (λ (k : ℕ). get_or bytes k 0 ≡ get_or others k 0) even (pair (j / 2) (omega (arith, h.len))).0)
    (λ v.
    let odd : 2 * (j / 2) + 1 ≡ j = omega arith in
    subst (λ (k : ℕ). get_or bytes k 0 ≡ get_or others k 0) odd (pair (j / 2) (omega (arith, h.len))).1)
    (cases_lt (j % 2) 1))
  where
    pair : (k : ℕ) → k < length coeffs → (get_or bytes (2 * k) 0 ≡ get_or others (2 * k) 0) × (get_or bytes (2 * k + 1) 0 ≡ get_or others (2 * k + 1) 0)
    pair k u = two_bytes (get_or coeffs k 0) (get_or bytes (2 * k) 0) (get_or bytes (2 * k + 1) 0) (get_or others (2 * k) 0) (get_or others (2 * k + 1) 0) (h.each k u) (i.each k u)
        (h.below (2 * k + 1) (omega (arith, h.len))) (i.below (2 * k + 1) (omega (arith, i.len)))

-- so are its coefficients
pub payload-coeffs_unique : (bytes coeffs others : List ℕ) → IsPayload bytes coeffs → IsPayload bytes others → coeffs ≡ others
payload-coeffs_unique bytes coeffs others h i =
    let e : length coeffs ≡ length others = omega (arith, h.len, i.len) in
    ext_get_or 0 coeffs others e (λ k u. h.each k u ∙ sym (i.each k (omega (arith, e))))
