-- A number below q has six digits, and one list of them.
use Rattle.std.proofs.Common.{◌≡◌, ℕ, zero, suc, ◌+◌, ◌*◌, ◌%◌, ◌/◌, ◌<◌, ◌^◌, sym, ap, ◌∙◌, arith, ℤ, pos, ◌+ℤ◌, ◌*ℤ◌, List, get_or}
use Rattle.std.proofs.Math.Nat.{pow-zero, pow-suc, mod-lt, mod-eq_of_lt, div-eq_of_lt, div-div-eq-div-mul, add-mul-mod_self_left, add-mul-div_left}
use Rattle.std.proofs.lemmas.List.FromFn.{length-map-range_with_len, get_or-map-range_with_len, fill_by_all}
use Rattle.co_math.specs.Parameters.{q, digit_base, digit_count}
use Rattle.co_math.specs.Sums.{total}
use Rattle.co_math.specs.Digits.{digit, digits_of, AreDigitsOf}
use Rattle.co_math.proofs.Integers.{linear}
use Rattle.co_math.proofs.Totals.{total-first, total-same, total-scale, total-zero, total-suc}
use Rattle.co_math.proofs.Residue_pairs.{digits}

pub digits_of-are : (x : ℕ) → x < q → AreDigitsOf x (digits_of x)
unfolding digits_of
digits_of-are x l = record {
  len = length-map-range_with_len (λ j. digit j x) 0 digit_count;
  below = λ j u. rw (at j u) (mod-lt (x / digit_base ^ j) (omega arith));
  sum =
      sym (total-same digit_count (λ j. pos (get_or (digits_of x) j 0 * digit_base ^ j)) (λ j. pos (digit j x * digit_base ^ j)) (λ j u. ap (λ d. pos (d * digit_base ^ j)) (at j u))
      ∙ digits digit_base digit_count x (omega arith) (omega arith));
}
  where
    at : (j : ℕ) → j < digit_count → get_or (digits_of x) j 0 ≡ digit j x
    at j u = get_or-map-range_with_len (λ i. digit i x) 0 digit_count j j 0 u (omega arith)

-- ---- one list

record IsNatural (z : ℤ) : Type 0 where
  pub number : ℕ
  pub is : z ≡ pos number

natural : (l : ℕ) (f : ℕ → ℕ) → IsNatural (total l (λ j. pos (f j)))
natural zero f = record { number = 0; is = total-zero (λ j. pos (f j)) }
natural (suc l) f =
    let r = natural l f in
    record { number = r.number + f l; is = total-suc l (λ j. pos (f j)) ∙ ap (λ z. z +ℤ pos (f l)) r.is }

-- a sum in base w is its lowest digit and w times the rest
record HasRest (w l x : ℕ) (d : ℕ → ℕ) : Type 0 where
  pub rest : ℕ
  pub whole : x ≡ d 0 + w * rest
  pub sum : pos rest ≡ total l (λ j. pos (d (suc j) * w ^ j))

rest_of : (w l x : ℕ) (d : ℕ → ℕ) → pos x ≡ total (suc l) (λ j. pos (d j * w ^ j)) → HasRest w l x d
rest_of w l x d e =
    let r = natural l (λ j. d (suc j) * w ^ j) in
    let all : pos x ≡ pos (d 0 * w ^ 0) +ℤ pos (w * r.number) =
    e ∙ total-first l (λ j. pos (d j * w ^ j))
    ∙ ap (λ y. pos (d 0 * w ^ 0) +ℤ y)
    (total-same l (λ j. pos (d (suc j) * w ^ suc j)) (λ j. pos w *ℤ pos (d (suc j) * w ^ j)) (λ j v. ap pos (turn (d (suc j)) (w ^ j) (w ^ suc j) (pow-suc w j)))
    ∙ total-scale l (pos w) (λ j. pos (d (suc j) * w ^ j)) ∙ ap (λ y. pos w *ℤ y) r.is) in
    record { rest = r.number; whole = omega (arith, linear, all, ap (λ k. d 0 * k) (pow-zero w)); sum = sym r.is }
  where
    turn : (a p s : ℕ) → s ≡ p * w → a * s ≡ w * (a * p)
    turn a p s h = omega (arith, ap (λ k. a * k) h)

lowest_digit : (w x d r : ℕ) → 0 < w → d < w → x ≡ d + w * r → x % w ≡ d
lowest_digit w x d r z l e = ap (λ k. k % w) e ∙ add-mul-mod_self_left d w r ∙ mod-eq_of_lt l

other_digits : (w x d r : ℕ) → 0 < w → d < w → x ≡ d + w * r → x / w ≡ r
other_digits w x d r z l e = ap (λ k. k / w) e ∙ add-mul-div_left d r z ∙ ap (λ k. k + r) (div-eq_of_lt l) ∙ omega arith

-- digits below w are those of their sum
same_digits : (w l x j : ℕ) (d : ℕ → ℕ) → 0 < w → ((j : ℕ) → j < l → d j < w) → pos x ≡ total l (λ j. pos (d j * w ^ j)) → j < l → d j ≡ x / w ^ j % w
same_digits w zero x j d z below e u = absurd (omega arith)
same_digits w (suc l) x zero d z below e u =
    let h = rest_of w l x d e in
    sym (ap (λ k. x / k % w) (pow-zero w) ∙ ap (λ k. k % w) (omega arith) ∙ lowest_digit w x (d 0) h.rest z (below 0 u) h.whole)
same_digits w (suc l) x (suc j) d z below e u =
    let h = rest_of w l x d e in
    same_digits w l h.rest j (λ i. d (suc i)) z (λ i v. below (suc i) (omega arith)) h.sum (omega arith)
    ∙ ap (λ k. k / w ^ j % w) (sym (other_digits w x (d 0) h.rest z (below 0 (omega arith)) h.whole))
    ∙ ap (λ k. k % w) (div-div-eq-div-mul x w (w ^ j) ∙ ap (λ k. x / k) (omega (arith, pow-suc w j)))

pub digits_unique : (x : ℕ) (ds : List ℕ) → AreDigitsOf x ds → ds ≡ digits_of x
unfolding digits_of
digits_unique x ds h = fill_by_all (λ j. digit j x) ds digit_count 0 h.len (λ j u. same_digits digit_base digit_count x j (λ i. get_or ds i 0) (omega arith) h.below h.sum u)
