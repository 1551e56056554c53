-- The polynomials of the digits of a polynomial.
use Rattle.std.proofs.Common.{◌≡◌, ℕ, ◌*◌, ◌-◌, ◌/◌, ◌%◌, ◌^◌, ◌<◌, ◌≤◌, sym, ap, subst, ◌∙◌, arith, ℤ, pos, ◌+ℤ◌, ◌*ℤ◌, List, length, get_or}
use Rattle.std.proofs.lemmas.List.{length-map, get_or-map}
use Rattle.std.specs.Int.RustNames.{unsigned_abs}
use lib.IntN.{neg_ℤ}
use Rattle.co_math.specs.Parameters.{q, digit_base, digit_count}
use Rattle.co_math.specs.Sums.{total}
use Rattle.co_math.specs.Coefficients.{coefficients, AreBelow}
use Rattle.co_math.specs.Polynomials.{IsWrapped}
use Rattle.co_math.proofs.Integers.{linear, mul-zero, neg-mul}
use Rattle.co_math.proofs.Residues.{cong_from}
use Rattle.co_math.proofs.Totals.{total-same, total-neg}
use Rattle.co_math.proofs.Terms.{coefficient-low}
use Rattle.co_math.proofs.Places.{coefficients-IsWrapped}
use Rattle.co_math.proofs.Agreements.{wrapped_agree}
use Rattle.co_math.proofs.Switched.{wrapped_bound}
use Rattle.co_math.proofs.Residue_pairs.{digits}
use Rattle.co_switch.specs.Switches.{digit_polynomial}

pub length-digit_polynomial : (j : ℕ) (xs : List ℕ) → length (digit_polynomial j xs) ≡ length xs
unfolding digit_polynomial
length-digit_polynomial j xs = length-map xs (λ x. x / digit_base ^ j % digit_base)

pub digit-at : (j : ℕ) (xs : List ℕ) (k : ℕ) → k < length xs → get_or (digit_polynomial j xs) k 0 ≡ get_or xs k 0 / digit_base ^ j % digit_base
unfolding digit_polynomial
digit-at j xs k l = get_or-map (λ x. x / digit_base ^ j % digit_base) xs k 0 0 l

digit-low : (j : ℕ) (xs : List ℕ) (k : ℕ) → k < length xs → coefficients (digit_polynomial j xs) (pos k) ≡ pos (get_or xs k 0 / digit_base ^ j % digit_base)
digit-low j xs k l = coefficient-low (digit_polynomial j xs) k (omega (arith, length-digit_polynomial j xs)) ∙ ap pos (digit-at j xs k l)

pub digit-IsWrapped : (j : ℕ) (xs : List ℕ) → 0 < length xs → IsWrapped (length xs) (coefficients (digit_polynomial j xs))
digit-IsWrapped j xs z =
    subst (λ (n : ℕ). IsWrapped n (coefficients (digit_polynomial j xs))) (length-digit_polynomial j xs) (coefficients-IsWrapped (digit_polynomial j xs) (omega (arith, length-digit_polynomial j xs)))

-- digits are below W
pub digit-small : (j : ℕ) (xs : List ℕ) → 0 < length xs → (k : ℤ) → unsigned_abs (coefficients (digit_polynomial j xs) k) ≤ digit_base - 1
digit-small j xs z =
    wrapped_bound (length xs) (coefficients (digit_polynomial j xs)) (digit_base - 1) z (digit-IsWrapped j xs z)
    (λ k l. subst (λ (y : ℤ). unsigned_abs y ≤ digit_base - 1) (sym (digit-low j xs k l)) (small (get_or xs k 0 / digit_base ^ j)))
  where
    small : (x : ℕ) → x % digit_base ≤ digit_base - 1
    small x = omega arith

-- the digits of a polynomial modulo q give it back
pub digits-sum : (xs : List ℕ) → 0 < length xs → AreBelow q xs → (k : ℤ) → total digit_count (λ j. coefficients (digit_polynomial j xs) k *ℤ pos (digit_base ^ j)) ≡ coefficients xs k
digits-sum xs z b k =
    let c = wrapped_agree 0 (length xs) sum (coefficients xs) z turned (coefficients-IsWrapped xs z) (λ i l. cong_from 0 (at i l)) k in
    c.same ∙ ap (λ y. coefficients xs k +ℤ y) (mul-zero c.times) ∙ omega (arith, linear)
  where
    sum : ℤ → ℤ
    sum k = total digit_count (λ j. coefficients (digit_polynomial j xs) k *ℤ pos (digit_base ^ j))

    turned : IsWrapped (length xs) sum
    turned k =
        total-same digit_count (λ j. coefficients (digit_polynomial j xs) (k +ℤ pos (length xs)) *ℤ pos (digit_base ^ j)) (λ j. neg_ℤ (coefficients (digit_polynomial j xs) k *ℤ pos (digit_base ^ j)))
        (λ j l. ap (λ y. y *ℤ pos (digit_base ^ j)) (digit-IsWrapped j xs z k) ∙ neg-mul (coefficients (digit_polynomial j xs) k) (pos (digit_base ^ j)))
        ∙ total-neg digit_count (λ j. coefficients (digit_polynomial j xs) k *ℤ pos (digit_base ^ j))

    room : (x : ℕ) → x < q → x < digit_base ^ digit_count
    room x l = omega arith

    at : (i : ℕ) → i < length xs → sum (pos i) ≡ coefficients xs (pos i)
    at i l =
        total-same digit_count (λ j. coefficients (digit_polynomial j xs) (pos i) *ℤ pos (digit_base ^ j)) (λ j. pos (get_or xs i 0 / digit_base ^ j % digit_base * digit_base ^ j))
        (λ j u. ap (λ y. y *ℤ pos (digit_base ^ j)) (digit-low j xs i l))
        ∙ digits digit_base digit_count (get_or xs i 0) (omega arith) (room (get_or xs i 0) (b i l))
        ∙ sym (coefficient-low xs i l)
