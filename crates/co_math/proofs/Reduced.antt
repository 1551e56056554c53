-- Numbers below m that stand for an integer.
use Rattle.std.proofs.Common.{◌≡◌, ℕ, ◌+◌, ◌-◌, ◌%◌, ◌<◌, ◌≤◌, refl, sym, ap, ◌∙◌, arith, ℤ, pos, ◌+ℤ◌, ◌-ℤ◌}
use lib.IntN.{neg_ℤ}
use Rattle.co_math.specs.Residues.{residue, Congruent}
use Rattle.co_math.proofs.Integers.{linear}
use Rattle.co_math.proofs.Residues.{residue-same, residue_small, residue-is, cong-trans, cong_from}

-- what is below m and congruent to z is its residue
pub reduced_as : (m r : ℕ) (z : ℤ) → r < m → Congruent m (pos r) z → r ≡ residue m z
reduced_as m r z l c = sym (residue_small m r l) ∙ residue-same m (pos r) z (omega arith) c

pub sum_kept : (m x y : ℕ) → x + y < m → x + y ≡ residue m (pos x +ℤ pos y)
sum_kept m x y l = reduced_as m (x + y) (pos x +ℤ pos y) l (cong_from m refl)

pub sum_over : (m x y : ℕ) → x < m → y < m → m ≤ x + y → x + y - m ≡ residue m (pos x +ℤ pos y)
sum_over m x y l u h = reduced_as m (x + y - m) (pos x +ℤ pos y) (omega arith) (record { times = neg_ℤ (pos 1); same = omega (arith, linear) })

pub difference_kept : (m x y : ℕ) → x < m → y ≤ x → x - y ≡ residue m (pos x -ℤ pos y)
difference_kept m x y l h = reduced_as m (x - y) (pos x -ℤ pos y) (omega arith) (cong_from m (omega (arith, linear)))

pub difference_under : (m x y : ℕ) → x < m → y < m → x < y → x + (m - y) ≡ residue m (pos x -ℤ pos y)
difference_under m x y l u h = reduced_as m (x + (m - y)) (pos x -ℤ pos y) (omega arith) (record { times = pos 1; same = omega (arith, linear) })

pub opposite_none : (m x : ℕ) → x < m → x ≡ 0 → 0 ≡ residue m (neg_ℤ (pos x))
opposite_none m x l e = reduced_as m 0 (neg_ℤ (pos x)) (omega arith) (record { times = pos 0; same = omega (arith, linear) })

pub opposite_some : (m x : ℕ) → x < m → 0 < x → m - x ≡ residue m (neg_ℤ (pos x))
opposite_some m x l z = reduced_as m (m - x) (neg_ℤ (pos x)) (omega arith) (record { times = pos 1; same = omega (arith, linear) })

pub remainder-is : (m x : ℕ) → x % m ≡ residue m (pos x)
unfolding residue
remainder-is m x = refl

-- the residue of a residue's class
pub residue_of : (m r : ℕ) (z : ℤ) → 0 < m → r ≡ residue m z → Congruent m (pos r) z
residue_of m r z p e = cong-trans m (cong_from m (ap pos e)) (residue-is m z p)

pub ruleset numbers = (sum_kept, sum_over, difference_kept, difference_under, opposite_none, opposite_some, remainder-is)
