-- Lists of coefficients that agree modulo m.
use Rattle.std.proofs.Common.{◌≡◌, ℕ, ◌+◌, ◌-◌, ◌<◌, sym, ap, subst, ◌∙◌, ⊎_elim, arith, ℤ, pos, ◌+ℤ◌, ◌-ℤ◌, ◌*ℤ◌, List, length, get_or}
use Rattle.std.proofs.lemmas.Bool.{cases_lt}
use Rattle.co_math.specs.Residues.{residue, Congruent}
use Rattle.co_math.specs.Polynomials.{IsWrapped, product, plus, minus, shifted}
use Rattle.co_math.specs.Coefficients.{coefficients, AreResidues}
use Rattle.co_math.proofs.Integers.{linear}
use Rattle.co_math.proofs.Residues.{cong_from, cong-sym, cong-trans, cong-add, cong-neg, cong-mul, cong-total, residue-is, residue-lt, residue-same}
use Rattle.co_math.proofs.Periods.{period-congruent}
use Rattle.co_math.proofs.Substitutions.{wrapped_period}
use Rattle.co_math.proofs.Terms.{coefficient-low}
use Rattle.co_math.proofs.Places.{coefficients-IsWrapped}
use Rattle.co_math.proofs.Reduced.{residue_of}

-- wrapped functions that agree at 0 .. n - 1 agree
pub wrapped_agree : (m n : ℕ) (f g : ℤ → ℤ) → 0 < n → IsWrapped n f → IsWrapped n g → ((k : ℕ) → k < n → Congruent m (f (pos k)) (g (pos k))) → (k : ℤ) → Congruent m (f k) (g k)
wrapped_agree m n f g z v w h k =
    let r = residue (n + n) k in
    let l = residue-lt (n + n) k (omega arith) in
    let back : Congruent (n + n) k (pos r) = cong-sym (n + n) (residue-is (n + n) k (omega arith)) in
    let at : Congruent m (f (pos r)) (g (pos r)) =
    ⊎_elim (λ u. h r u)
    (λ u.
    let over : pos r ≡ pos (r - n) +ℤ pos n = omega (arith, linear) in
    cong-trans m (cong_from m (ap f over ∙ v (pos (r - n))))
    (cong-trans m (cong-neg m (h (r - n) (omega arith))) (cong_from m (sym (ap g over ∙ w (pos (r - n)))))))
    (cases_lt r n) in
    cong-trans m (cong_from m (period-congruent (n + n) f (wrapped_period n f v) back))
    (cong-trans m at (cong_from m (sym (period-congruent (n + n) g (wrapped_period n g w) back))))

pub coefficients_agree : (m : ℕ) (xs ys : List ℕ) → 0 < length xs → length ys ≡ length xs → ((k : ℕ) → k < length xs → Congruent m (pos (get_or xs k 0)) (pos (get_or ys k 0)))
    → (k : ℤ) → Congruent m (coefficients xs k) (coefficients ys k)
coefficients_agree m xs ys z e h =
    wrapped_agree m (length xs) (coefficients xs) (coefficients ys) z (coefficients-IsWrapped xs z)
    (subst (λ (n : ℕ). IsWrapped n (coefficients ys)) e (coefficients-IsWrapped ys (omega arith)))
    (λ k u. cong-trans m (cong_from m (coefficient-low xs k u)) (cong-trans m (h k u) (cong_from m (sym (coefficient-low ys k (omega arith))))))

-- residues of f agree with it everywhere
pub residues_agree : (m n : ℕ) (f : ℤ → ℤ) (xs : List ℕ) → 0 < m → 0 < n → IsWrapped n f → AreResidues m n f xs → (k : ℤ) → Congruent m (coefficients xs k) (f k)
residues_agree m n f xs p z w h =
    wrapped_agree m n (coefficients xs) f z (subst (λ (k : ℕ). IsWrapped k (coefficients xs)) h.len (coefficients-IsWrapped xs (omega (arith, h.len)))) w
    (λ k u. cong-trans m (cong_from m (coefficient-low xs k (omega (arith, h.len)))) (residue_of m (get_or xs k 0) (f (pos k)) p (h.each k u)))

pub residues_for : (m n : ℕ) (f g : ℤ → ℤ) (xs : List ℕ) → 0 < m → ((k : ℕ) → k < n → Congruent m (f (pos k)) (g (pos k))) → AreResidues m n f xs → AreResidues m n g xs
residues_for m n f g xs p c h = record { len = h.len; each = λ k u. h.each k u ∙ residue-same m (f (pos k)) (g (pos k)) p (c k u) }

-- the operations respect congruence
abbrev pub Agree : ℕ → (ℤ → ℤ) → (ℤ → ℤ) → Type 0
Agree m f g = (k : ℤ) → Congruent m (f k) (g k)

pub plus_agree : (m : ℕ) (a b c d : ℤ → ℤ) → Agree m a c → Agree m b d → Agree m (plus a b) (plus c d)
unfolding plus
plus_agree m a b c d x y k = cong-add m (x k) (y k)

pub minus_agree : (m : ℕ) (a b c d : ℤ → ℤ) → Agree m a c → Agree m b d → Agree m (minus a b) (minus c d)
unfolding minus
minus_agree m a b c d x y k = cong-add m (x k) (cong-neg m (y k))

pub shifted_agree : (m e : ℕ) (a c : ℤ → ℤ) → Agree m a c → Agree m (shifted e a) (shifted e c)
unfolding shifted
shifted_agree m e a c x k = x (k -ℤ pos e)

pub product_agree : (m n : ℕ) (a b c d : ℤ → ℤ) → Agree m a c → Agree m b d → Agree m (product n a b) (product n c d)
unfolding product
product_agree m n a b c d x y k = cong-total m n (λ i. a (pos i) *ℤ b (k -ℤ pos i)) (λ i. c (pos i) *ℤ d (k -ℤ pos i)) (λ i u. cong-mul m (x (pos i)) (y (k -ℤ pos i)))
