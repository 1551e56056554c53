-- The terms of a coefficient of a product, and their sum.
use Rattle.std.proofs.Common.{◌≡◌, ℕ, ◌+◌, ◌*◌, ◌-◌, ◌%◌, ◌^◌, suc, ◌<◌, ◌≤◌, refl, sym, ap, ◌∙◌, arith, ℤ, pos, ◌+ℤ◌, ◌-ℤ◌, ◌*ℤ◌, List, length, get_or}
use Rattle.std.proofs.lemmas.Nat.{mul-le}
use lib.IntN.{neg_ℤ}
use Rattle.co_math.specs.Residues.{residue, Congruent}
use Rattle.co_math.specs.Sums.{total}
use Rattle.co_math.specs.Polynomials.{product, spread}
use Rattle.co_math.proofs.Integers.{linear}
use Rattle.co_math.proofs.Residues.{cong-trans, cong-mul, cong-add, cong_from, residue-same}
use Rattle.co_math.proofs.Reduced.{remainder-is}
use Rattle.co_math.proofs.Totals.{total-suc}
use Rattle.co_math.proofs.Spreads.{spread-low, spread-IsWrapped}
use Rattle.co_math.specs.Coefficients.{coefficients}

pub coefficient-low : (xs : List ℕ) (k : ℕ) → k < length xs → coefficients xs (pos k) ≡ pos (get_or xs k 0)
unfolding coefficients
coefficient-low xs k l = spread-low (length xs) (λ i. pos (get_or xs i 0)) k l

-- the coefficient at k - i, where i is past k
pub coefficient-around : (xs : List ℕ) (k i : ℕ) → k < i → i < length xs → coefficients xs (pos k -ℤ pos i) ≡ neg_ℤ (pos (get_or xs (k + length xs - i) 0))
unfolding coefficients
coefficient-around xs k i l u =
    let n = length xs in
    let c = spread n (λ i. pos (get_or xs i 0)) in
    let w : c (pos k -ℤ pos i +ℤ pos n) ≡ neg_ℤ (c (pos k -ℤ pos i)) = spread-IsWrapped n (λ i. pos (get_or xs i 0)) (omega arith) (pos k -ℤ pos i) in
    let e : c (pos k -ℤ pos i +ℤ pos n) ≡ c (pos (k + n - i)) = ap c (omega (arith, linear)) in
    let s : c (pos (k + n - i)) ≡ pos (get_or xs (k + n - i) 0) = spread-low n (λ i. pos (get_or xs i 0)) (k + n - i) (omega arith) in
    omega (arith, linear)

pub coefficient-back : (xs : List ℕ) (k i : ℕ) → i ≤ k → k < length xs → coefficients xs (pos k -ℤ pos i) ≡ pos (get_or xs (k - i) 0)
coefficient-back xs k i l u = ap (coefficients xs) (omega (arith, linear)) ∙ coefficient-low xs (k - i) (omega arith)

pub term : List ℕ → List ℕ → ℕ → ℕ → ℤ
term a b k i = coefficients a (pos i) *ℤ coefficients b (pos k -ℤ pos i)

pub total-term : (a b : List ℕ) (k : ℕ) → total (length a) (term a b k) ≡ product (length a) (coefficients a) (coefficients b) (pos k)
unfolding product term
total-term a b k = refl

-- s is the sum of the first i terms, modulo m, and not reduced
pub record IsPartialSum (m i s : ℕ) (a b : List ℕ) (k : ℕ) : Type 0 where
  pub bound : s ≤ i * 2 ^ 102
  pub sum : Congruent m (pos s) (total i (term a b k))

pub no_terms : (m : ℕ) (a b : List ℕ) (k : ℕ) → IsPartialSum m 0 0 a b k
unfolding total
no_terms m a b k = record { bound = omega arith; sum = cong_from m refl }

-- one more term, where y stands for b at k - i
pub one_term_more : (m i s y r : ℕ) (a b : List ℕ) (k : ℕ) → i < length a → IsPartialSum m i s a b k → get_or a i 0 < 2 ^ 51 → y ≤ 2 ^ 51
    → Congruent m (pos y) (coefficients b (pos k -ℤ pos i)) → r ≡ s + get_or a i 0 * y → IsPartialSum m (i + 1) r a b k
unfolding term
one_term_more m i s y r a b k u h l w c e =
    let next : i + 1 ≡ suc i = omega arith in
    record {
      bound = omega (arith, h.bound, e, mul-le (get_or a i 0) y (2 ^ 51) (2 ^ 51) (omega (arith, l)) w);
      sum =
          cong-trans m (cong_from m (ap pos e))
          (cong-trans m (cong-add m h.sum (cong-mul m (cong_from m (sym (coefficient-low a i u))) c))
          (cong_from m (sym (ap (λ j. total j (term a b k)) next ∙ total-suc i (term a b k)))));
    }

pub all_terms : (m i s r : ℕ) (a b : List ℕ) (k : ℕ) → 0 < m → i ≡ length a → IsPartialSum m i s a b k → r ≡ s % m → r ≡ residue m (product (length a) (coefficients a) (coefficients b) (pos k))
all_terms m i s r a b k p n h e =
    e ∙ remainder-is m s ∙ residue-same m (pos s) (total i (term a b k)) p h.sum ∙ ap (residue m) (ap (λ j. total j (term a b k)) n ∙ total-term a b k)

-- b at k - i, from before or from around the end with the opposite sign
pub read_before : (m k i y : ℕ) (b : List ℕ) → i ≤ k → k < length b → y ≡ get_or b (k - i) 0 → Congruent m (pos y) (coefficients b (pos k -ℤ pos i))
read_before m k i y b l u e = cong_from m (ap pos e ∙ sym (coefficient-back b k i l u))

pub read_around : (m k i y : ℕ) (b : List ℕ) → k < i → i < length b → get_or b (k + length b - i) 0 < m → y ≡ m - get_or b (k + length b - i) 0 → Congruent m (pos y) (coefficients b (pos k -ℤ pos i))
read_around m k i y b l u h e =
    let c : Congruent m (pos y) (neg_ℤ (pos (get_or b (k + length b - i) 0))) = record { times = pos 1; same = omega (arith, linear) } in
    cong-trans m c (cong_from m (sym (coefficient-around b k i l u)))
