-- What polynomials modulo X^n + 1 are made of others.
use Rattle.std.proofs.Common.{ℕ, ap, ◌∙◌, arith, ℤ, pos, ◌+ℤ◌, ◌-ℤ◌, ◌*ℤ◌}
use Rattle.co_math.specs.Polynomials.{IsWrapped, plus, minus, scaled, shifted}
use Rattle.co_math.proofs.Integers.{linear, expand}

pub plus-IsWrapped : (n : ℕ) (a b : ℤ → ℤ) → IsWrapped n a → IsWrapped n b → IsWrapped n (plus a b)
unfolding plus
plus-IsWrapped n a b v w k = (λ t. v k t +ℤ w k t) ∙ omega (arith, linear)

pub minus-IsWrapped : (n : ℕ) (a b : ℤ → ℤ) → IsWrapped n a → IsWrapped n b → IsWrapped n (minus a b)
unfolding minus
minus-IsWrapped n a b v w k = (λ t. v k t -ℤ w k t) ∙ omega (arith, linear)

pub scaled-IsWrapped : (n : ℕ) (c : ℤ) (a : ℤ → ℤ) → IsWrapped n a → IsWrapped n (scaled c a)
unfolding scaled
scaled-IsWrapped n c a w k = ap (λ t. c *ℤ t) (w k) ∙ simp expand

pub shifted-IsWrapped : (n e : ℕ) (a : ℤ → ℤ) → IsWrapped n a → IsWrapped n (shifted e a)
unfolding shifted
shifted-IsWrapped n e a w k = ap a (omega (arith, linear)) ∙ w (k -ℤ pos e)
