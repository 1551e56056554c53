-- One reader after another: the first fault is that of all, and without one all find what each found.
use Rattle.std.proofs.Common.{◌≡◌, ℕ, Bool, true, false, length, refl, sym, ap, subst, ◌∙◌, Result, Ok, Err}
use Rattle.std.specs.Prelude.{◌==◌, if◌then◌else◌}
use Rattle.co_wire.specs.declared.fault.WireFault.{WireFault}
use Rattle.co_wire.specs.declared.fault.WireFault.TheVariants.{Length, Range, Public, OutOfMemory}
use Rattle.co_wire.specs.Reading.{Left, ◌>>=◌, Fails, ended}

-- the first reader has a fault
pub here_fails : {A B : Type 0} (fault : WireFault) (r : Result A ℕ) (f : A → Result B ℕ) → Fails fault r → Fails fault (r >>= f)
here_fails OutOfMemory r f h = tt
here_fails (Length wanted found) r f h = h
here_fails (Range place) r f h = h
here_fails (Public place) r f h = ap (λ x. x >>= f) h

-- it has none, and a later one has
pub then_fails : {A B : Type 0} (fault : WireFault) (r : Result A ℕ) (x : A) (f : A → Result B ℕ) → r ≡ Ok x → Fails fault (f x) → Fails fault (r >>= f)
then_fails fault r x f e h = subst (λ y. Fails fault (y >>= f)) (sym e) h

-- none has
pub then_is : {A B : Type 0} (r : Result A ℕ) (x : A) (f : A → Result B ℕ) (y : Result B ℕ) → r ≡ Ok x → f x ≡ y → (r >>= f) ≡ y
then_is r x f y e g = ap (λ z. z >>= f) e ∙ g

-- nothing is left, whatever was read
pub ended_is : {X Y : Type 0} (x : X) (y : Y) (s : Left) → ended x s ≡ Ok x → ended y s ≡ Ok y
ended_is {X} {Y} x y s e = step (length s.rest == 0) e
  where
    step : (b : Bool) → (if b then Ok x else Err s.at) ≡ Ok x → (if b then Ok y else Err s.at) ≡ Ok y
    step true h = refl
    step false h = absurd (cc)
