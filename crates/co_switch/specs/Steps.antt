-- A count of steps, which never falls and stays at 2^64 - 1 once it is there.
use Rattle.std.specs.Prelude.{ℕ, ◌+◌, ◌-◌, ◌^◌, ◌≤◌, min, max}

-- the count after so many more steps
unfoldable pub raised : ℕ → ℕ → ℕ
raised before by = max before (min (before + by) (2 ^ 64 - 1))

-- the count rose by at most so many steps
pub record HasRisen (before most now : ℕ) : Type 0 where
  pub at_least : before ≤ now
  pub at_most : now ≤ raised before most
