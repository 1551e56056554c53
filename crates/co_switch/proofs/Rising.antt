-- Counts of steps that rise.
use Rattle.std.proofs.Common.{◌≡◌, ℕ, ◌+◌, ◌≤◌, sym, arith}
use Rattle.co_switch.specs.Steps.{raised, HasRisen}

pub raised-zero : (n : ℕ) → raised n 0 ≡ n
unfolding raised
raised-zero n = omega arith

pub raised-up : (n a : ℕ) → n ≤ raised n a
unfolding raised
raised-up n a = omega arith

pub raised-le : (n a b : ℕ) → a ≤ b → raised n a ≤ raised n b
unfolding raised
raised-le n a b k = omega arith

pub raised-raised : (n a b : ℕ) → raised (raised n a) b ≡ raised n (a + b)
unfolding raised
raised-raised n a b = omega arith

-- exactly so many steps
pub risen : (before most now by : ℕ) → now ≡ raised before by → by ≤ most → HasRisen before most now
risen before most now by e l = record { at_least = omega (arith, e, raised-up before by); at_most = omega (arith, e, raised-le before by most l) }

-- none
pub risen_none : (before most : ℕ) → HasRisen before most before
risen_none before most = risen before most before 0 (sym (raised-zero before)) (omega arith)

-- exactly so many steps, and then at most as many as are left
pub risen_more : (before by most all now : ℕ) → HasRisen (raised before by) most now → by + most ≤ all → HasRisen before all now
unfolding raised
risen_more before by most all now h l = record { at_least = omega (arith, h.at_least); at_most = omega (arith, h.at_most) }
