-- Calls that are to fail.
use Rattle.std.specs.Prelude.{◌≡◌, ◌⊎◌, ℕ, Bool, true, ◌==◌, List, Result, Err}
use Rattle.std.specs.List.{list_any}
use Rattle.co_link.specs.Causes.{one_more}

-- the numbers of the calls that are to fail, from 0, and the number of the next call
pub record Calls : Type 0 where
  pub failing : List ℕ
  pub next : ℕ

-- before the first call
abbrev pub calls_failing : List ℕ → Calls
calls_failing numbers = record { failing = numbers; next = 0 }

-- whether the next call is to fail
abbrev pub is_to_fail : Calls → Bool
is_to_fail calls = list_any (λ number. number == calls.next) calls.failing

-- after the next call
abbrev pub after_call : Calls → Calls
after_call calls = record { failing = calls.failing; next = one_more calls.next }

-- a call fails exactly where it is to fail, but for want of memory
pub record FailsExactly {T E : Type 0} (failed memory : E) (fails : Bool) (result : Result T E)
    : Type 0 where
  pub only : result ≡ Err failed → fails ≡ true
  pub there : fails ≡ true → (result ≡ Err failed) ⊎ (result ≡ Err memory)
