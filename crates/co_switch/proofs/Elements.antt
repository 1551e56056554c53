-- How many keys a set has, and their Galois elements.
use Rattle.std.proofs.Common.{◌≡◌, ℕ, zero, suc, ◌+◌, ◌*◌, ◌-◌, ◌/◌, ◌%◌, ◌^◌, ◌<◌, ◌≤◌, refl, sym, ap, ◌∙◌, arith}
use Rattle.std.proofs.Math.Nat.{div-add-mod', mod-lt, mod-eq_of_lt, mul-div_cancel, div-le_self}
use Rattle.std.proofs.lemmas.Nat.{pow-add, pow_pos, mul-mod_first}
use Rattle.co_math.specs.Coefficients.{IsDegree}
use Rattle.co_noise.specs.Shapes.{Numbers, levels}
use Rattle.co_math.specs.Logarithms.{log2_up}
use Rattle.co_math.proofs.Logarithms.{log2_up-le, log2_up-pow}
use Rattle.co_noise.specs.Bounds.{HasRoom}
use Rattle.co_switch.specs.Keys.{rotation_element, expansion_element}

-- a degree is twice a power of two
pub record Half (n : ℕ) : Type 0 where
  pub exponent : ℕ
  pub few : exponent ≤ 11
  pub some : 3 ≤ exponent
  pub is : n ≡ 2 * 2 ^ exponent
  pub log : log2_up (n / 2) ≡ exponent

pub half_of : (n : ℕ) → IsDegree n → Half n
half_of n d =
    let e : 1 + (d.exponent - 1) ≡ d.exponent = omega (arith, d.least) in
    let two : n ≡ 2 * 2 ^ (d.exponent - 1) = d.is ∙ ap (λ k. 2 ^ k) (sym e) ∙ pow-add 2 1 (d.exponent - 1) in
    let half : n / 2 ≡ 2 ^ (d.exponent - 1) = omega arith in
    record {
      exponent = d.exponent - 1;
      few = omega (arith, d.most);
      some = omega (arith, d.least);
      is = two;
      log = ap log2_up half ∙ log2_up-pow (d.exponent - 1);
    }

-- a tested shape has at most log2 n levels
pub levels-le : (s : Numbers) (h : Half s.degree) → HasRoom s → levels s ≤ h.exponent + 1
unfolding levels
levels-le s h r =
    let e : 2 ^ (h.exponent + 1) ≡ 2 * 2 ^ h.exponent = pow-add 2 h.exponent 1 ∙ omega arith in
    omega (arith, log2_up-le s.rows (h.exponent + 1) (omega (arith, e, h.is, r.rows)), log2_up-le s.bins (h.exponent + 1) (omega (arith, e, h.is, r.bins)))

-- ---- elements

odd_rest : (x n : ℕ) → x % 2 ≡ 1 → x % (2 * n) % 2 ≡ 1
odd_rest x n odd =
    let e = div-add-mod' x (2 * n) in
    let f : x / (2 * n) * (2 * n) ≡ 2 * (x / (2 * n) * n) = omega arith in
    omega (arith, e, f)

odd_square : (x : ℕ) → x % 2 ≡ 1 → x * x % 2 ≡ 1
odd_square x odd =
    let e : x ≡ 2 * (x / 2) + 1 = omega arith in
    let f : x * x ≡ 2 * (2 * (x / 2) * (x / 2) + 2 * (x / 2)) + 1 = ap (λ y. y * y) e ∙ omega arith in
    omega (arith, f)

threes_odd : (b : ℕ) → 3 ^ (2 ^ b) % 2 ≡ 1
threes_odd zero = refl
threes_odd (suc b) = ap (λ x. x % 2) (threes-suc b) ∙ odd_square (3 ^ (2 ^ b)) (threes_odd b)
  where
    threes-suc : (b : ℕ) → 3 ^ (2 ^ suc b) ≡ 3 ^ (2 ^ b) * 3 ^ (2 ^ b)
    threes-suc b = let e : 2 ^ suc b ≡ 2 ^ b + 2 ^ b = omega arith in ap (λ x. 3 ^ x) e ∙ pow-add 3 (2 ^ b) (2 ^ b)

pub rotation_element-odd : (n b : ℕ) → rotation_element n b % 2 ≡ 1
rotation_element-odd n b = odd_rest (3 ^ (2 ^ b)) n (threes_odd b)

pub rotation_element-lt : (n b : ℕ) → 0 < n → rotation_element n b < 2 * n
rotation_element-lt n b z = mod-lt (3 ^ (2 ^ b)) (omega arith)

pub rotation_element-first : (n : ℕ) → 2 ≤ n → 3 ≡ rotation_element n 0
rotation_element-first n l = sym (mod-eq_of_lt {n = 3} {m = 2 * n} (omega arith))

-- each is the square of the one before
pub rotation_element-next : (n b x y m : ℕ) → x ≡ rotation_element n b → m ≡ 2 * n → y ≡ x * x % m → y ≡ rotation_element n (b + 1)
rotation_element-next n b x y m e f h =
    let p = 3 ^ (2 ^ b) in
    let next : 2 ^ (b + 1) ≡ 2 ^ b + 2 ^ b = pow-add 2 b 1 ∙ omega arith in
    h ∙ (λ t. e t * e t % f t) ∙ mul-mod_first p (p % (2 * n)) (2 * n) ∙ ap (λ k. k % (2 * n)) (turn p (p % (2 * n))) ∙ mul-mod_first p p (2 * n)
    ∙ ap (λ k. k % (2 * n)) (sym (ap (λ k. 3 ^ k) next ∙ pow-add 3 (2 ^ b) (2 ^ b)))
  where
    turn : (a b : ℕ) → a * b ≡ b * a
    turn a b = omega arith

-- n / 2^j is even where 2^(j+1) divides n
pub expansion_element-odd : (n j : ℕ) (h : Half n) → j < h.exponent + 1 → expansion_element n j % 2 ≡ 1
expansion_element-odd n j h l =
    let e : h.exponent ≡ h.exponent - j + j = omega arith in
    let f : n ≡ 2 * 2 ^ (h.exponent - j) * 2 ^ j = h.is ∙ ap (λ k. 2 * 2 ^ k) e ∙ ap (λ k. 2 * k) (pow-add 2 (h.exponent - j) j) ∙ omega arith in
    let g : n / 2 ^ j ≡ 2 * 2 ^ (h.exponent - j) = ap (λ k. k / 2 ^ j) f ∙ mul-div_cancel (2 * 2 ^ (h.exponent - j)) (pow_pos j) in
    omega (arith, g)

pub expansion_element-lt : (n j : ℕ) → 2 ≤ n → expansion_element n j < 2 * n
expansion_element-lt n j l = omega (arith, div-le_self n (2 ^ j))
