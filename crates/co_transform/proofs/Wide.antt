-- Numbers of 128 bits modulo q.
use Rattle.std.proofs.Common.{◌≡◌, ℕ, ◌+◌, ◌-◌, ◌*◌, ◌/◌, ◌%◌, ◌^◌, ◌<◌, ◌≤◌, ap, ◌∙◌, arith, sym, ⊎_elim}
use Rattle.std.proofs.lemmas.Bool.{cases_lt}
use Rattle.std.proofs.lemmas.Nat.{mul-mod_second}
use Rattle.std.proofs.Math.Nat.{add-mul-mod_self_right}
use Rattle.co_transform.proofs.Shoup.{sum_mod, low_mod, high_mod}

pub wide_mod : (x h l high low fold q : ℕ) → h ≡ x / 2 ^ 64 → l ≡ x % 2 ^ 64 → fold ≡ 2 ^ 64 % q → high % q ≡ h * fold % q → low % q ≡ l * 1 % q → (high + low) % q ≡ x % q
wide_mod x h l high low fold q e f g a b =
    let back : h * fold % q ≡ h * 2 ^ 64 % q = ap (λ k. h * k % q) g ∙ mul-mod_second h (2 ^ 64) q in
    let turn : high + l * 1 ≡ l * 1 + high = omega arith in
    let whole : l * 1 + h * 2 ^ 64 ≡ x = omega (arith, e, f) in
    sum_mod high low (l * 1) q b ∙ ap (λ k. k % q) turn ∙ sum_mod (l * 1) high (h * 2 ^ 64) q (a ∙ back) ∙ ap (λ k. k % q) whole

pub four_mod : (x y r q : ℕ) → x < 4 * q → (x < 2 * q → y ≡ x) → (2 * q ≤ x → y ≡ x - 2 * q) → (y < q → r ≡ y) → (q ≤ y → r ≡ y - q) → r ≡ x % q
four_mod x y r q l a b c d =
    let small : y < 2 * q = ⊎_elim (λ u. omega (arith, a u, u)) (λ u. omega (arith, b u, l, u)) (cases_lt x (2 * q)) in
    let same : y % q ≡ x % q = ⊎_elim (λ u. ap (λ k. k % q) (a u))
    (λ u. let whole : x ≡ y + 2 * q = omega (arith, b u, u) in sym (ap (λ k. k % q) whole ∙ add-mul-mod_self_right y 2 q)) (cases_lt x (2 * q)) in
    ⊎_elim (λ u. c u ∙ low_mod y x q u same) (λ u. d u ∙ high_mod y x q u small same) (cases_lt y q)
