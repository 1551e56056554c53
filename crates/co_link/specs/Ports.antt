-- What a port tells, and what listening and accepting make of it.
use Rattle.std.specs.Prelude.{◌≡◌, ℕ, Bool, true, false, List, [], ◌∷◌, ◌++◌, Option, Some, IfSome, Result, Ok, Err}
use Rattle.co_link.specs.Causes.{one_more}
use Rattle.co_link.specs.declared.sink.Failed.{Failed}

-- what a port tells beside its current connection
pub record PortTells : Type 0 where
  -- told always: whether it listens; how often it was called to listen and to accept; the number of
  -- the last call to listen; and whether there is a current connection
  pub listening : Bool
  pub listens : ℕ
  pub accepts : ℕ
  pub last_port : Option ℕ
  pub connected : Bool
  -- the waiting inputs, the first one first, and the outputs of the connections that ended; None
  -- where it doesn't tell
  pub waiting : Option (List (List ℕ))
  pub ended : Option (List (List ℕ))

-- after a call to listen it listens exactly where that answered Ok
abbrev pub Listens : PortTells → PortTells → ℕ → Result (Unit {0}) Failed → Type 0
Listens old new port (Ok _) =
    new ≡ record old { listening = true; listens = one_more old.listens; last_port = Some port }
Listens old new port (Err _) =
    new ≡ record old { listening = false; listens = one_more old.listens; last_port = Some port }

-- the outputs of ended connections, after the current one ended
abbrev pub ended_with : Bool → List (List ℕ) → List ℕ → List (List ℕ)
ended_with true ended put = ended ++ put ∷ []
ended_with false ended put = ended

-- the first waiting input is that of the current connection, of which nothing was put yet
pub record IsAccepted (old new : PortTells) (left_new put_old put_new : Option (List ℕ))
    : Type 0 where
  pub listening : new.listening ≡ old.listening
  pub listens : new.listens ≡ old.listens
  pub accepts : new.accepts ≡ one_more old.accepts
  pub last_port : new.last_port ≡ old.last_port
  pub connected : new.connected ≡ true
  pub waiting : IfSome old.waiting (λ waiting. (first : List ℕ) × (rest : List (List ℕ))
      × (waiting ≡ first ∷ rest) × (new.waiting ≡ Some rest) × (left_new ≡ Some first))
  pub output : IfSome put_old (λ put. put_new ≡ Some [])
  pub ended : IfSome old.ended (λ ended. IfSome put_old (λ put. new.ended
      ≡ Some (ended_with old.connected ended put)))

-- a call to accept; one that failed is only counted
abbrev pub Accepts : PortTells → PortTells → Option (List ℕ) → Option (List ℕ) → Option (List ℕ)
    → Option (List ℕ) → Result (Unit {0}) Failed → Type 0
Accepts old new left_old left_new put_old put_new (Ok _) =
    IsAccepted old new left_new put_old put_new
Accepts old new left_old left_new put_old put_new (Err _) =
    (new ≡ record old { accepts = one_more old.accepts })
    × (left_new ≡ left_old) × (put_new ≡ put_old)
