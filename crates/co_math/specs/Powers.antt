-- Powers of integers, and the roots of the three moduli.
use Rattle.std.specs.Prelude.{ℕ, ℤ, pos, ◌+ℤ◌, ◌*ℤ◌, ◌^◌, ◌+◌, ◌-◌, ◌*◌, ◌/◌, ◌<◌, ◌≡◌}
use Prim.Native.Nat.{zero, suc}
use Rattle.co_math.specs.Residues.{residue}

-- x * .. * x, k times
unfoldable pub power : ℤ → ℕ → ℤ
power x zero = pos 1
power x (suc k) = power x k *ℤ x

-- 3 to the power (m - 1) / 2n, modulo m
unfoldable pub root : ℕ → ℕ → ℕ
root m n = residue m (power (pos 3) ((m - 1) / (2 * n)))

-- x is 1 plus an odd multiple of m
pub record IsOneAndOdd (m : ℕ) (x : ℤ) : Type 0 where
  pub half : ℕ
  pub is : x ≡ pos (1 + (2 * half + 1) * m)

-- the product of 1 + r ^ (2 ^ b) over b below l
unfoldable pub doublings : ℤ → ℕ → ℤ
doublings r zero = pos 1
doublings r (suc l) = doublings r l *ℤ (pos 1 +ℤ power r (2 ^ l))

-- one of its factors is 0 modulo m
pub record HasZeroFactor (m : ℕ) (r : ℤ) (l : ℕ) : Type 0 where
  pub place : ℕ
  pub below : place < l
  pub zero : residue m (pos 1 +ℤ power r (2 ^ place)) ≡ 0
