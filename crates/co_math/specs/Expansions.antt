-- What the ciphertexts of an expansion mean.
use Rattle.std.specs.Prelude.{ℕ, ℤ, pos, ◌+ℤ◌, ◌-ℤ◌, ◌*ℤ◌}

-- a + a(X^g), where h is the inverse of g
unfoldable pub evens : ℤ → (ℤ → ℤ) → ℤ → ℤ
evens h a i = a i +ℤ a (h *ℤ i)

-- X^(-s) (a - a(X^g))
unfoldable pub odds : ℤ → ℕ → (ℤ → ℤ) → ℤ → ℤ
odds h s a i = a (i +ℤ pos s) -ℤ a (h *ℤ (i +ℤ pos s))
