-- Lists of numbers in which each number below a bound stands once.
use Rattle.std.specs.Prelude.{◌≡◌, ℕ, zero, suc, ◌+◌, List, [], ◌∷◌, nat_eq, nat_lt, if◌then◌else◌}

-- f of each element, added up
abbrev pub sum_over : {X : Type 0} → (X → ℕ) → List X → ℕ
sum_over f [] = 0
sum_over f (x ∷ xs) = f x + sum_over f xs

-- how often x stands in the list
abbrev pub times : ℕ → List ℕ → ℕ
times x xs = sum_over (λ y. if nat_eq y x then 1 else 0) xs

-- 1 below n, and else 0
abbrev pub once_below : ℕ → ℕ → ℕ
once_below n x = if nat_lt x n then 1 else 0

-- the lists together have each number below n once, and no other
pub record EachOnce (n : ℕ) (lists : List (List ℕ)) : Type 0 where
  pub each : (x : ℕ) → sum_over (times x) lists ≡ once_below n x

-- f 0 + .. + f (n - 1)
abbrev pub sum_below : ℕ → (ℕ → ℕ) → ℕ
sum_below zero f = 0
sum_below (suc n) f = sum_below n f + f n
