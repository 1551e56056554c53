-- The powers of 3 that are -1.
use Rattle.std.proofs.Common.{ℤ, ◌≡◌, ℕ, ◌+◌, ◌*◌, ◌-◌, ◌%◌, ◌/◌, ◌<◌, ◌≤◌, ◌^◌, refl, sym, ap, ◌∙◌, arith, pos, negsuc, ◌*ℤ◌}
use Rattle.std.proofs.Math.Nat.{mul-div-mul_left, mul-div_cancel}
use Rattle.std.proofs.lemmas.Nat.{pow_pos, pow-add}
use Rattle.co_math.specs.Residues.{residue, Congruent}
use Rattle.co_math.specs.Powers.{power, root}
use Rattle.co_math.proofs.Integers.{linear}
use Rattle.co_math.proofs.Residues.{residue-same, residue_small, cong-sym, cong-trans, cong_from, residue-is}
use Rattle.co_math.proofs.Powers.{power-mul, power-congruent, squared, squared-is, power-suc, power-zero}
use Rattle.co_math.specs.Parameters.{first_modulus, plain_modulus, second_modulus}

-- b ^ (c * 2 ^ j) where r is b ^ c modulo m
raised : (m b c r j e : ℕ) → 0 < m → Congruent m (power (pos b) c) (pos r) → c * 2 ^ j ≡ e → Congruent m (power (pos b) e) (pos (squared m r j))
raised m b c r j e p h g =
    cong-trans m (cong_from m (ap (power (pos b)) (sym g) ∙ power-mul (pos b) c (2 ^ j)))
    (cong-trans m (power-congruent m h (2 ^ j)) (squared-is m r p j))

below : (m r : ℕ) → r + 1 ≡ m → Congruent m (pos r) (negsuc 0)
below m r e = record { times = pos 1; same = omega (arith, linear) }

pub three_q_one : Congruent first_modulus (power (pos 3) 615726511554560) (negsuc 0)
unfolding power
three_q_one =
    cong-trans first_modulus (raised first_modulus 3 35 (3 ^ 35 % first_modulus) 44 615726511554560 (omega arith)
    (record { times = pos (3 ^ 35 / first_modulus); same = refl }) refl)
    (below first_modulus (squared first_modulus (3 ^ 35 % first_modulus) 44) refl)

pub three_q_two : Congruent second_modulus (power (pos 3) 668503069687808) (negsuc 0)
unfolding power
three_q_two =
    cong-trans second_modulus (raised second_modulus 3 19 (3 ^ 19) 45 668503069687808 (omega arith)
    (cong_from second_modulus refl) refl)
    (below second_modulus (squared second_modulus (3 ^ 19) 45) refl)

pub three_t : Congruent plain_modulus (power (pos 3) 32768) (negsuc 0)
three_t =
    cong-trans plain_modulus (raised plain_modulus 3 1 3 15 32768 (omega arith) (cong_from plain_modulus (power-suc (pos 3) 0 ∙ ap (λ t. t *ℤ pos 3) (power-zero (pos 3)))) refl)
    (below plain_modulus (squared plain_modulus 3 15) refl)

-- the n-th power of a root, where h is half of m - 1 and n divides it
pub root-power : (m n h : ℕ) → 0 < m → 0 < n → m - 1 ≡ 2 * h → h / n * n ≡ h → Congruent m (power (pos 3) h) (negsuc 0) → Congruent m (power (pos (root m n)) n) (negsuc 0)
unfolding root
root-power m n h p z e d c =
    let x = (m - 1) / (2 * n) in
    let half : x ≡ h / n = ap (λ t. t / (2 * n)) e ∙ mul-div-mul_left h n (omega arith) in
    cong-trans m (power-congruent m (residue-is m (power (pos 3) x) p) n)
    (cong-trans m (cong_from m (sym (power-mul (pos 3) x n) ∙ ap (power (pos 3)) (ap (λ t. t * n) half ∙ d))) c)

split_two : (j s : ℕ) → j ≤ s → 2 ^ s ≡ 2 ^ (s - j) * 2 ^ j
split_two j s l = ap (λ t. 2 ^ t) (omega arith) ∙ pow-add 2 (s - j) j

divided : (c j s h : ℕ) → j ≤ s → h ≡ c * 2 ^ s → h / 2 ^ j * 2 ^ j ≡ h
divided c j s h l e =
    let f : h ≡ c * 2 ^ (s - j) * 2 ^ j = e ∙ ap (λ t. c * t) (split_two j s l) ∙ omega arith in
    ap (λ t. t / 2 ^ j * 2 ^ j) f ∙ ap (λ t. t * 2 ^ j) (mul-div_cancel (c * 2 ^ (s - j)) (pow_pos j)) ∙ sym f

pub root_q_one : (j : ℕ) → j ≤ 44 → Congruent first_modulus (power (pos (root first_modulus (2 ^ j))) (2 ^ j)) (negsuc 0)
root_q_one j l = root-power first_modulus (2 ^ j) 615726511554560 (omega arith) (pow_pos j) refl (divided 35 j 44 615726511554560 l refl) three_q_one

pub root_q_two : (j : ℕ) → j ≤ 45 → Congruent second_modulus (power (pos (root second_modulus (2 ^ j))) (2 ^ j)) (negsuc 0)
root_q_two j l = root-power second_modulus (2 ^ j) 668503069687808 (omega arith) (pow_pos j) refl (divided 19 j 45 668503069687808 l refl) three_q_two

pub root_t : (j : ℕ) → j ≤ 15 → Congruent plain_modulus (power (pos (root plain_modulus (2 ^ j))) (2 ^ j)) (negsuc 0)
root_t j l = root-power plain_modulus (2 ^ j) 32768 (omega arith) (pow_pos j) refl (divided 1 j 15 32768 l refl) three_t

-- what is -1 modulo m leaves m - 1
pub minus_residue : (m : ℕ) (z : ℤ) → 0 < m → Congruent m z (negsuc 0) → residue m z ≡ m - 1
minus_residue m z p c =
    residue-same m z (pos (m - 1)) p (cong-trans m c (cong-sym m (below m (m - 1) (omega arith))))
    ∙ residue_small m (m - 1) (omega arith)
