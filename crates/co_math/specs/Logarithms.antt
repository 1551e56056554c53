-- Logarithms to base 2, rounded up.
use Rattle.std.specs.Prelude.{ℕ, zero, suc, Bool, ◌+◌, ◌≤◌, ◌^◌, nat_le, if◌then◌else◌}

-- of the places from `at` on, `more` of them and one further, the first that passes, or the last
unfoldable pub least : (ℕ → Bool) → ℕ → ℕ → ℕ
least p at zero = at
least p at (suc more) = if p at then at else least p (at + 1) more

-- the least l with n ≤ 2 ^ l; it is at most n
unfoldable pub log2_up : ℕ → ℕ
log2_up n = least (λ l. nat_le n (2 ^ l)) 0 n

-- l is the least number with n ≤ 2 ^ l
pub record IsLogarithm (n l : ℕ) : Type 0 where
  pub reaches : n ≤ 2 ^ l
  pub least : (k : ℕ) → n ≤ 2 ^ k → l ≤ k
