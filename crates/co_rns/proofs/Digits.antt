-- The base of the digits as a power of 2.
use Rattle.std.proofs.Common.{◌≡◌, ℕ, zero, suc, ◌+◌, ◌*◌, ◌^◌, refl, sym, ap, ◌∙◌, arith, ◌/◌, ◌%◌, ◌<◌, ◌≤◌, pos, List, get_or}
use Rattle.std.proofs.lemmas.Nat.{pow-add}
use Rattle.std.proofs.lemmas.List.{ext_get_or}
use Rattle.std.proofs.Math.Nat.{pow-suc, mod-lt}
use Rattle.co_math.specs.Coefficients.{AreBelow}
use Rattle.co_rns.specs.Residue_pairs.{AreDigits}
use Rattle.co_math.specs.Parameters.{digit_bits, digit_base, digit_count, q}
use Rattle.co_math.specs.Sums.{total}
use Rattle.co_math.proofs.Residue_pairs.{digits}

pub power_of_base : (i : ℕ) → 2 ^ (digit_bits * i) ≡ digit_base ^ i
power_of_base zero = refl
power_of_base (suc i) =
    let e : digit_bits * suc i ≡ digit_bits * i + digit_bits = omega arith in
    ap (λ k. 2 ^ k) e ∙ pow-add 2 (digit_bits * i) digit_bits ∙ ap (λ k. k * digit_base) (power_of_base i) ∙ sym (pow-suc digit_base i)

-- the digits of a number below q are the number
pub digits-sum : (x : ℕ) → x < q → total digit_count (λ j. pos (x / digit_base ^ j % digit_base * digit_base ^ j)) ≡ pos x
digits-sum x l = digits digit_base digit_count x (omega arith) (omega arith)

-- digits are below what the base is not above, and there is one list of them
pub digits_small : (place m : ℕ) (cs ds : List ℕ) → digit_base ≤ m → AreDigits digit_base place cs ds → AreBelow m ds
digits_small place m cs ds l h k u =
    let d : get_or cs k 0 / digit_base ^ place % digit_base < digit_base = mod-lt (get_or cs k 0 / digit_base ^ place) (omega arith) in
    omega (arith, h.each k (omega (arith, u, h.len)), d, l)

pub one_digits : (place : ℕ) (cs ds es : List ℕ) → AreDigits digit_base place cs ds → AreDigits digit_base place cs es → ds ≡ es
one_digits place cs ds es h g = ext_get_or 0 ds es (h.len ∙ sym g.len) (λ k u. h.each k (omega (arith, u, h.len)) ∙ sym (g.each k (omega (arith, u, h.len))))
