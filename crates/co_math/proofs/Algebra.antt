-- The ring of polynomials modulo X^n + 1: what Polynomials.antt leaves.
use Rattle.std.proofs.Common.{◌≡◌, ℕ, ◌<◌, ap, ◌∙◌, arith, ℤ, pos, ◌-ℤ◌, ◌*ℤ◌}
use Rattle.co_math.specs.Polynomials.{IsWrapped, product, shifted}
use Rattle.co_math.proofs.Integers.{linear}
use Rattle.co_math.proofs.Totals.{total-same}
use Rattle.co_math.proofs.Polynomials.{product_comm}
use Rattle.co_math.proofs.Wrapped.{shifted-IsWrapped}

pub product-shifted : (n e : ℕ) (a b : ℤ → ℤ) (k : ℤ) → product n a (shifted e b) k ≡ shifted e (product n a b) k
unfolding product shifted
product-shifted n e a b k =
    total-same n (λ i. a (pos i) *ℤ b (k -ℤ pos i -ℤ pos e)) (λ i. a (pos i) *ℤ b (k -ℤ pos e -ℤ pos i)) (λ i l. ap (λ t. a (pos i) *ℤ b t) (omega (arith, linear)))

pub shifted-product : (n e : ℕ) (a b : ℤ → ℤ) → 0 < n → IsWrapped n a → IsWrapped n b → (k : ℤ) → product n (shifted e a) b k ≡ shifted e (product n a b) k
unfolding shifted
shifted-product n e a b z v w k =
    product_comm n (shifted e a) b z (shifted-IsWrapped n e a v) w k ∙ product-shifted n e b a k ∙ product_comm n b a z w v (k -ℤ pos e)
