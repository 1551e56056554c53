-- Polynomials modulo X^n + 1: the coefficient at every integer place, where a place n further has
-- the opposite coefficient.
use Rattle.std.specs.Prelude.{ℕ, ℤ, pos, ◌+ℤ◌, ◌-ℤ◌, ◌*ℤ◌, neg_ℤ, ◌≡◌, ◌+◌, ◌-◌, ◌*◌, nat_lt, nat_eq, if◌then◌else◌}
use Rattle.co_math.specs.Sums.{total}
use Rattle.co_math.specs.Residues.{residue}

-- a place n further has the opposite: X^n is -1
abbrev pub IsWrapped : ℕ → (ℤ → ℤ) → Type 0
IsWrapped n a = (k : ℤ) → a (k +ℤ pos n) ≡ neg_ℤ (a k)

-- the polynomial with the coefficients c 0 .. c (n - 1)
unfoldable pub spread : ℕ → (ℕ → ℤ) → ℤ → ℤ
spread n c k = if nat_lt (residue (n + n) k) n then c (residue (n + n) k)
    else neg_ℤ (c (residue (n + n) k - n))

-- the negacyclic product: coefficient k is the sum of a i * b (k - i) over one period
unfoldable pub product : ℕ → (ℤ → ℤ) → (ℤ → ℤ) → ℤ → ℤ
product n a b k = total n (λ i. a (pos i) *ℤ b (k -ℤ pos i))

-- place by place
unfoldable pub plus : (ℤ → ℤ) → (ℤ → ℤ) → ℤ → ℤ
plus a b k = a k +ℤ b k

-- place by place
unfoldable pub minus : (ℤ → ℤ) → (ℤ → ℤ) → ℤ → ℤ
minus a b k = a k -ℤ b k

-- times a number
unfoldable pub scaled : ℤ → (ℤ → ℤ) → ℤ → ℤ
scaled c a k = c *ℤ a k

-- X^e times a
unfoldable pub shifted : ℕ → (ℤ → ℤ) → ℤ → ℤ
shifted e a k = a (k -ℤ pos e)

-- X^g for X, where h * g is 1 modulo 2n: a(X^g) as `substitution` has it, read back by the inverse
-- h
unfoldable pub substituted : ℤ → (ℤ → ℤ) → ℤ → ℤ
substituted h a k = a (h *ℤ k)

-- the coefficients of 1
abbrev pub one_at : ℕ → ℤ
one_at i = if nat_eq i 0 then pos 1 else pos 0

-- the polynomial 1
unfoldable pub unit : ℕ → ℤ → ℤ
unit n = spread n one_at

-- a(X^g), the sum of a_i * X^(g*i) over i below n; g is odd
unfoldable pub substitution : ℕ → ℕ → (ℤ → ℤ) → ℤ → ℤ
substitution n g a k = total n (λ i. a (pos i) *ℤ unit n (k -ℤ pos (g * i)))

-- the sum of a_i * b_j over all i and j below n with i + j = s
unfoldable pub convolution : ℕ → (ℤ → ℤ) → (ℤ → ℤ) → ℕ → ℤ
convolution n a b s =
    total n (λ i. total n (λ j. if nat_eq (i + j) s then a (pos i) *ℤ b (pos j) else pos 0))
