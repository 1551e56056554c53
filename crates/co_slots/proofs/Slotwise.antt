-- Sums, products and substitutions of polynomials, slot by slot.
use Rattle.std.proofs.Common.{◌≡◌, ℕ, ◌+◌, ◌*◌, ◌-◌, ◌%◌, ◌/◌, ◌<◌, refl, sym, ap, subst, ◌∙◌, arith, ℤ, pos, negsuc, ◌+ℤ◌, ◌*ℤ◌, List, length, get_or}
use Rattle.std.proofs.Math.Nat.{div-add-mod', mod-lt}
use lib.IntN.{neg_ℤ}
use Rattle.co_math.specs.Parameters.{plain_modulus}
use Rattle.co_math.specs.Residues.{residue, Congruent}
use Rattle.co_math.specs.Powers.{power, root}
use Rattle.co_math.specs.Polynomials.{IsWrapped, product, plus, substituted}
use Rattle.co_math.specs.Values.{value, value_at}
use Rattle.co_math.specs.Coefficients.{coefficients, AreBelow, AreResidues, IsDegree, IsSubstituted}
use Rattle.co_math.proofs.Integers.{linear, expand, mul-one}
use Rattle.co_math.proofs.Residues.{cong-refl, cong_from, cong-sym, cong-trans, cong-add, cong-neg, cong-mul, cong-total, residue-is, residue-lt, residue-same, residue_small}
use Rattle.co_math.proofs.Reduced.{remainder-is, residue_of}
use Rattle.co_math.proofs.Powers.{power-add, power-mul, power-congruent, power-one}
use Rattle.co_math.proofs.Geometric.{minus_odd}
use Rattle.co_math.proofs.Values.{value-congruent}
use Rattle.co_math.proofs.Evaluations.{value-product}
use Rattle.co_math.proofs.Substitutions.{value-substituted, power-period}
use Rattle.co_math.proofs.Places.{coefficients-IsWrapped}
use Rattle.co_math.proofs.Degrees.{degree_positive, power_of_two}
use Rattle.co_math.proofs.Substituting.{odd_inverse, substituted_agree}
use Rattle.co_math.proofs.Uniqueness.{below_same}
use Rattle.co_math.proofs.Agreements.{Agree}
use Rattle.co_math.proofs.Orders.{coarser, three-odd}
use Rattle.co_math.proofs.Terms.{coefficient-low}
use Rattle.co_ring.specs.declared.moduli.Modulus.TheVariants.{Plain}
use Rattle.co_ring.proofs.Orderings.{values_add}
use Rattle.co_ring.proofs.Rooted.{root_minus}
use Rattle.co_ring.proofs.Ordered.{powers_return}
use Rattle.co_slots.specs.Slots.{exponent_of, slot, AreSlots}
use Rattle.co_slots.proofs.Exponents.{exponent-first, exponent-second, exponent-lt, exponent-odd, exponents_differ}
use Rattle.co_slots.proofs.Recovering.{values_apart}
use Rattle.co_slots.proofs.Placing.{degree-inverse}

-- where a polynomial is evaluated for slot p
pub point : ℕ → ℕ → ℤ
point n p = power (pos (root plain_modulus n)) (exponent_of n p)

-- the n-th power of a point is -1
pub point-minus : (n p : ℕ) → IsDegree n → Congruent plain_modulus (power (point n p) n) (negsuc 0)
unfolding point
point-minus n p d =
    let psi = pos (root plain_modulus n) in
    let e = exponent_of n p in
    let o : e ≡ 2 * (e / 2) + 1 = odd_is e (exponent-odd n p (degree_positive n d)) in
    cong-trans plain_modulus (cong_from plain_modulus (sym (power-mul psi e n) ∙ ap (power psi) (turn e n) ∙ power-mul psi n e))
    (cong-trans plain_modulus (power-congruent plain_modulus (root_minus Plain n d) e) (cong_from plain_modulus (ap (power (negsuc 0)) o ∙ minus_odd (e / 2))))
  where
    odd_is : (e : ℕ) → e % 2 ≡ 1 → e ≡ 2 * (e / 2) + 1
    odd_is e o = omega arith

    turn : (a b : ℕ) → a * b ≡ b * a
    turn a b = omega arith

-- a slot is the value at its point
pub slot-is : (n : ℕ) (xs : List ℕ) (p : ℕ) → length xs ≡ n → slot xs p ≡ residue plain_modulus (value_at n (coefficients xs) (point n p))
unfolding slot point
slot-is n xs p e = ap (λ k. residue plain_modulus (value_at k (coefficients xs) (power (pos (root plain_modulus k)) (exponent_of k p)))) e

slot_value : (n : ℕ) (xs : List ℕ) (p : ℕ) → length xs ≡ n → Congruent plain_modulus (pos (slot xs p)) (value_at n (coefficients xs) (point n p))
slot_value n xs p e = residue_of plain_modulus (slot xs p) (value_at n (coefficients xs) (point n p)) (omega arith) (slot-is n xs p e)

slot_by : (n : ℕ) (xs : List ℕ) (p : ℕ) (z : ℤ) → length xs ≡ n → Congruent plain_modulus (value_at n (coefficients xs) (point n p)) z → slot xs p ≡ residue plain_modulus z
slot_by n xs p z e c = slot-is n xs p e ∙ residue-same plain_modulus (value_at n (coefficients xs) (point n p)) z (omega arith) c

-- values of functions that agree
values_agree : (m n : ℕ) (a b : ℤ → ℤ) (x : ℤ) → ((k : ℕ) → k < n → Congruent m (a (pos k)) (b (pos k))) → Congruent m (value_at n a x) (value_at n b x)
unfolding value_at
values_agree m n a b x h = value-congruent m n (λ j. a (pos j)) (λ j. b (pos j)) x h

value_of_residues : (m n : ℕ) (f : ℤ → ℤ) (xs : List ℕ) (x : ℤ) → 0 < m → AreResidues m n f xs → Congruent m (value_at n (coefficients xs) x) (value_at n f x)
value_of_residues m n f xs x p h =
    values_agree m n (coefficients xs) f x
    (λ k l. cong-trans m (cong_from m (coefficient-low xs k (omega (arith, h.len)))) (residue_of m (get_or xs k 0) (f (pos k)) p (h.each k l)))

-- values at points that are congruent
value-point : (m n : ℕ) (a : ℤ → ℤ) {x y : ℤ} → Congruent m x y → Congruent m (value_at n a x) (value_at n a y)
unfolding value_at value
value-point m n a {x} {y} c = cong-total m n (λ j. a (pos j) *ℤ power x j) (λ j. a (pos j) *ℤ power y j) (λ j l. cong-mul m (cong-refl m (a (pos j))) (power-congruent m c j))

-- the slots of a sum, a difference and a product
pub slot-plus : (xs ys zs : List ℕ) (p : ℕ) → length ys ≡ length xs → AreResidues plain_modulus (length xs) (plus (coefficients xs) (coefficients ys)) zs
    → slot zs p ≡ (slot xs p + slot ys p) % plain_modulus
slot-plus xs ys zs p e h =
    let n = length xs in
    let t = plain_modulus in
    let x = point n p in
    slot_by n zs p (pos (slot xs p + slot ys p)) h.len
    (cong-trans t (value_of_residues t n (plus (coefficients xs) (coefficients ys)) zs x (omega arith) h)
    (cong-trans t (cong_from t (values_add n (coefficients xs) (coefficients ys) x)) (cong-add t (cong-sym t (slot_value n xs p refl)) (cong-sym t (slot_value n ys p e)))))
    ∙ sym (remainder-is t (slot xs p + slot ys p))

pub slot-product : (xs ys zs : List ℕ) (p : ℕ) → IsDegree (length xs) → length ys ≡ length xs → AreResidues plain_modulus (length xs) (product (length xs) (coefficients xs) (coefficients ys)) zs
    → slot zs p ≡ slot xs p * slot ys p % plain_modulus
slot-product xs ys zs p d e h =
    let n = length xs in
    let t = plain_modulus in
    let x = point n p in
    let z = degree_positive n d in
    let w : IsWrapped n (coefficients ys) = subst (λ (k : ℕ). IsWrapped k (coefficients ys)) e (coefficients-IsWrapped ys (omega (arith, e))) in
    slot_by n zs p (pos (slot xs p * slot ys p)) h.len
    (cong-trans t (value_of_residues t n (product n (coefficients xs) (coefficients ys)) zs x (omega arith) h)
    (cong-trans t (value-product t n (coefficients xs) (coefficients ys) x z w (point-minus n p d)) (cong-mul t (cong-sym t (slot_value n xs p refl)) (cong-sym t (slot_value n ys p e)))))
    ∙ sym (remainder-is t (slot xs p * slot ys p))

-- a substitution moves slots where it moves exponents
pub slot-substituted : (g p r : ℕ) (xs ys : List ℕ) → IsDegree (length xs) → g % 2 ≡ 1 → IsSubstituted plain_modulus g xs ys
    → Congruent (2 * length xs) (pos (exponent_of (length xs) p * g)) (pos (exponent_of (length xs) r)) → slot ys p ≡ slot xs r
unfolding point
slot-substituted g p r xs ys d o s c =
    let n = length xs in
    let t = plain_modulus in
    let psi = pos (root plain_modulus n) in
    let z = degree_positive n d in
    let h = odd_inverse n g (power_of_two n d) o in
    let two : 2 * n ≡ n + n = omega arith in
    let moved : Congruent t (power (point n p) g) (point n r) =
    cong-trans t (cong_from t (sym (power-mul psi (exponent_of n p) g))) (power-period t n psi (root_minus Plain n d) (exponent_of n p * g) (exponent_of n r) (subst (λ (k : ℕ). Congruent k (pos (exponent_of n p * g)) (pos (exponent_of n r))) two c)) in
    let agree : Agree t (coefficients ys) (substituted h.by (coefficients xs)) = substituted_agree t g h.by xs ys z o h.is s in
    slot_by n ys p (pos (slot xs r)) s.len
    (cong-trans t (values_agree t n (coefficients ys) (substituted h.by (coefficients xs)) (point n p) (λ k l. agree (pos k)))
    (cong-trans t (value-substituted t n (point n p) (point-minus n p d) (omega arith) z g h.by h.half (coefficients xs) (coefficients-IsWrapped xs z) h.is h.odd)
    (cong-trans t (value-point t n (coefficients xs) moved) (cong-sym t (slot_value n xs r refl)))))
    ∙ residue_small t (slot xs r) (subst (λ (k : ℕ). k < plain_modulus) (sym (slot-is n xs r refl)) (residue-lt plain_modulus (value_at n (coefficients xs) (point n r)) (omega arith)))

power_reduced : (m h : ℕ) (x : ℤ) → Congruent m (power x h) (pos 1) → (k : ℕ) → Congruent m (power x k) (power x (k % h))
power_reduced m h x c k =
    let e : k ≡ k % h + h * (k / h) = split k (k / h) (k % h) (div-add-mod' k h) in
    cong-trans m (cong_from m (ap (power x) e ∙ power-add x (k % h) (h * (k / h)) ∙ ap (λ t. power x (k % h) *ℤ t) (power-mul x h (k / h))))
    (cong-trans m (cong-mul m (cong-refl m (power x (k % h))) (cong-trans m (power-congruent m c (k / h)) (cong_from m (power-one (k / h))))) (cong_from m (mul-one (power x (k % h)))))
  where
    split : (k a b : ℕ) → a * h + b ≡ k → k ≡ b + h * a
    split k a b e = omega (arith, e)

-- the Galois element of a turn is odd
pub turn-odd : (n i : ℕ) → IsDegree n → residue (2 * n) (power (pos 3) i) % 2 ≡ 1
turn-odd n i d =
    let z = degree_positive n d in
    let g = residue (2 * n) (power (pos 3) i) in
    let o = three-odd i in
    let c : Congruent 2 (pos g) (power (pos 3) i) = coarser 2 n (subst (λ (k : ℕ). Congruent k (pos g) (power (pos 3) i)) (turn n) (residue-is (2 * n) (power (pos 3) i) (omega arith))) in
    remainder-is 2 g ∙ residue-same 2 (pos g) (pos 1) (omega arith) (cong-trans 2 c (record { times = o.half; same = o.is ∙ shape o.half })) ∙ residue_small 2 1 (omega arith)
  where
    turn : (n : ℕ) → 2 * n ≡ n * 2
    turn n = omega arith

    shape : (v : ℤ) → v +ℤ v +ℤ pos 1 ≡ pos 1 +ℤ v *ℤ pos 2
    shape v = omega (arith, linear)

-- X to X^(3^i) turns both rows by i places
pub first_row_turned : (i j : ℕ) (xs ys : List ℕ) → IsDegree (length xs) → IsSubstituted plain_modulus (residue (2 * length xs) (power (pos 3) i)) xs ys → j < length xs / 2
    → slot ys j ≡ slot xs ((j + i) % (length xs / 2))
first_row_turned i j xs ys d s l =
    let n = length xs in
    let h = n / 2 in
    let m = 2 * n in
    let g = residue m (power (pos 3) i) in
    let r = (j + i) % h in
    let z = degree_positive n d in
    let below : r < h = mod-lt (j + i) (omega arith) in
    slot-substituted g j r xs ys d (turn-odd n i d) s
    (cong-trans m (cong-mul m (residue_of m (exponent_of n j) (power (pos 3) j) (omega arith) (exponent-first n j l)) (residue-is m (power (pos 3) i) (omega arith)))
    (cong-trans m (cong_from m (sym (power-add (pos 3) j i))) (cong-trans m (power_reduced m h (pos 3) (powers_return n d) (j + i))
    (cong-sym m (residue_of m (exponent_of n r) (power (pos 3) r) (omega arith) (exponent-first n r below))))))

pub second_row_turned : (i j : ℕ) (xs ys : List ℕ) → IsDegree (length xs) → IsSubstituted plain_modulus (residue (2 * length xs) (power (pos 3) i)) xs ys → j < length xs / 2
    → slot ys (length xs / 2 + j) ≡ slot xs (length xs / 2 + (j + i) % (length xs / 2))
second_row_turned i j xs ys d s l =
    let n = length xs in
    let h = n / 2 in
    let g = residue (2 * n) (power (pos 3) i) in
    let r = (j + i) % h in
    let z = degree_positive n d in
    let back : (k : ℕ) → h + k - h ≡ k = λ k. omega arith in
    let at : (k : ℕ) → exponent_of n (h + k) ≡ residue (2 * n) (neg_ℤ (power (pos 3) k)) = λ k. exponent-second n (h + k) (omega arith) ∙ ap (λ y. residue (2 * n) (neg_ℤ (power (pos 3) y))) (back k) in
    slot-substituted g (h + j) (h + r) xs ys d (turn-odd n i d) s
    (cong-trans (2 * n) (cong-mul (2 * n) (residue_of (2 * n) (exponent_of n (h + j)) (neg_ℤ (power (pos 3) j)) (omega arith) (at j)) (residue-is (2 * n) (power (pos 3) i) (omega arith)))
    (cong-trans (2 * n) (cong_from (2 * n) (outward (power (pos 3) j) (power (pos 3) i) ∙ ap neg_ℤ (sym (power-add (pos 3) j i)))) (cong-trans (2 * n) (cong-neg (2 * n) (power_reduced (2 * n) h (pos 3) (powers_return n d) (j + i)))
    (cong-sym (2 * n) (residue_of (2 * n) (exponent_of n (h + r)) (neg_ℤ (power (pos 3) r)) (omega arith) (at r))))))
  where
    outward : (a b : ℤ) → neg_ℤ a *ℤ b ≡ neg_ℤ (a *ℤ b)
    outward a b = simp expand

-- no two polynomials have the same slots
pub slots_unique : (xs ys slots : List ℕ) → IsDegree (length xs) → AreBelow plain_modulus xs → AreBelow plain_modulus ys → AreSlots xs slots → AreSlots ys slots → xs ≡ ys
unfolding value_at point
slots_unique xs ys slots d b c s r =
    let n = length xs in
    let t = plain_modulus in
    let z = degree_positive n d in
    let e : length ys ≡ n = sym r.len ∙ s.len in
    below_same t xs ys e b c
    (λ k l. cong-trans t (cong_from t (sym (coefficient-low xs k l))) (cong-trans t
    (values_apart t n d.exponent (pos (root t n)) d.is (root_minus Plain n d) (exponent_of n) (λ j a. exponent-lt n j z) (λ j a. exponent-odd n j z) (λ j k a f ne. exponents_differ n j k d a f ne)
    (pos (t - (t - 1) / n)) (λ j. coefficients xs (pos j)) (λ j. coefficients ys (pos j)) (degree-inverse n d)
    (λ p u. cong-trans t (cong-sym t (slot_value n xs p refl)) (cong-trans t (cong_from t (ap pos (sym (s.each p u) ∙ r.each p (omega (arith, e))))) (slot_value n ys p e))) k l)
    (cong_from t (coefficient-low ys k (omega (arith, e))))))
