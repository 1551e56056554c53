-- Rounding in encryption and decryption.
use Rattle.std.proofs.Common.{◌≡◌, ℕ, ◌+◌, ◌*◌, ◌%◌, ◌/◌, ◌<◌, ◌≤◌, ap, ◌∙◌, arith, ℤ, pos, negsuc, ◌+ℤ◌, ◌-ℤ◌, ◌*ℤ◌}
use Rattle.std.proofs.Math.Nat.{mul-le-mul_left, mod-lt, div-add-mod', div-eq_of_lt-le, add-mul-mod_self_right, mod-eq_of_lt}
use Rattle.std.specs.Int.RustNames.{unsigned_abs}
use borrow.Author.Differences.{abs_is}
use Rattle.co_math.proofs.Integers.{linear}
use Rattle.co_math.specs.Parameters.{plain_modulus, q}

-- t * Delta(m) is q * m but for 32768
pub rounding : (m : ℕ) → unsigned_abs (pos plain_modulus *ℤ pos ((2 * q * m + plain_modulus) / (2 * plain_modulus)) -ℤ pos q *ℤ pos m) ≤ 32768
rounding m =
    let x = (2 * q * m + plain_modulus) / (2 * plain_modulus) in
    let d = div-add-mod' (2 * q * m + plain_modulus) (2 * plain_modulus) in
    let r = mod-lt (2 * q * m + plain_modulus) {m = (2 * plain_modulus)} (omega arith) in
    omega (arith, linear, abs_is (pos plain_modulus *ℤ pos x -ℤ pos q *ℤ pos m))

-- t * phase is q * m + e + t q u, where e is small: the rounded quotient is m + t u
rounded : (t q p m b : ℕ) (u : ℕ) (e : ℤ) → 0 < q → pos (t * p) ≡ pos (q * m) +ℤ e +ℤ pos (t * q * u) → unsigned_abs e ≤ b → 2 * b < q → (2 * t * p + q) / (2 * q) ≡ m + t * u
rounded t q p m b u e z h f g =
    div-eq_of_lt-le (2 * q) (omega (arith, linear, h, abs_is e)) (omega (arith, linear, h, abs_is e))

pub decrypted : (t q p m b : ℕ) (u : ℕ) (e : ℤ) → 0 < q → m < t → pos (t * p) ≡ pos (q * m) +ℤ e +ℤ pos (t * q * u) → unsigned_abs e ≤ b → 2 * b < q → (2 * t * p + q) / (2 * q) % t ≡ m
decrypted t q p m b u e z l h f g =
    let c : m + t * u ≡ m + u * t = omega arith in
    ap (λ k. k % t) (rounded t q p m b u e z h f g ∙ c) ∙ add-mul-mod_self_right m u t ∙ mod-eq_of_lt l

-- the multiple of t q is not negative
pub decrypted_at : (t q p m b : ℕ) (u e : ℤ) → 0 < q → m < t → p < q → pos (t * p) ≡ pos (q * m) +ℤ e +ℤ u *ℤ pos (t * q) → unsigned_abs e ≤ b → 2 * b < q → (2 * t * p + q) / (2 * q) % t ≡ m
decrypted_at t q p m b (pos u) e z l s h f g = decrypted t q p m b u e z l (h ∙ omega (arith, linear)) f g
decrypted_at t q p m b (negsuc u) e z l s h f g = absurd (omega (arith, linear, h, abs_is e, mul-le-mul_left q l))
