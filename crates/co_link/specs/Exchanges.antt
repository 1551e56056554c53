-- What links tell: their exchanges, which exchange failed last, and how they were dialled.
use Rattle.std.specs.Prelude.{◌≡◌, ℕ, ◌≤◌, ◌⊎◌, List, [], ◌∷◌, ◌++◌, Option, Some, None, Result, Ok, Err}
use Rattle.co_link.specs.Causes.{Rose, one_more}
use Rattle.co_link.specs.declared.messages.Target.{Target}
use Rattle.co_link.specs.declared.messages.Request.{Request}
use Rattle.co_link.specs.declared.messages.Reply.{Reply}
use Rattle.co_link.specs.declared.messages.Exchange.{Exchange}
use Rattle.co_link.specs.declared.link.LinkFault.{LinkFault}
use Rattle.co_link.specs.declared.link.LinkFault.TheVariants.{Failed, OutOfMemory}

-- an exchange that was tried: its target, and the most bytes of a reply's body
pub record LinkCall : Type 0 where
  pub target : Target
  pub limit : ℕ

-- a dial
pub record DialCall : Type 0 where
  pub host : List ℕ
  pub port : ℕ

-- a request and its reply
abbrev pub exchange_of : Request → Reply → Exchange
exchange_of request reply = record { request = request; reply = reply }

-- an exchange that answered Ok stands at the end of those before; after an error these are as they
-- were
abbrev pub Records : Option (List Exchange) → Option (List Exchange) → Request
    → Result Reply LinkFault → Type 0
Records None new request result = new ≡ None
Records (Some old) new request (Ok reply) = new ≡ Some (old ++ (exchange_of request reply ∷ []))
Records (Some old) new request (Err fault) = new ≡ Some old

-- after a dial that answered Ok there is no exchange; after an error those before, or none
abbrev pub Clears : Option (List Exchange) → Option (List Exchange)
    → Result (Unit {0}) LinkFault → Type 0
Clears None new result = new ≡ None
Clears (Some old) new (Ok _) = new ≡ Some []
Clears (Some old) new (Err fault) = (new ≡ Some old) ⊎ (new ≡ Some [])

-- the cause of a failed exchange, and what is told of it: one that failed raised the count and is
-- the last that failed; any other leaves both
pub record LinkCause {T : Type 0} (before now : ℕ) (was is : Option LinkCall) (call : LinkCall)
    (result : Result T LinkFault) : Type 0 where
  pub later : before ≤ now
  pub failed : result ≡ Err Failed → Rose before now × (is ≡ Some call)
  pub other : (result ≡ Err Failed → ⊥) → is ≡ was
  pub same : (result ≡ Err Failed → ⊥) → now ≡ before

-- the cause of a failed dial, and no other answer raises the count; it leaves which exchange failed
-- last
pub record DialCause (before now : ℕ) (was is : Option LinkCall)
    (result : Result (Unit {0}) LinkFault) : Type 0 where
  pub later : before ≤ now
  pub failed : result ≡ Err Failed → Rose before now
  pub same : (result ≡ Err Failed → ⊥) → now ≡ before
  pub last : is ≡ was

-- one dial more, and it is the last
pub record IsDialled (before now : ℕ) (is : Option DialCall) (call : DialCall) : Type 0 where
  pub counted : now ≡ one_more before
  pub last : is ≡ Some call

-- a dial is counted and told, unless there was no memory for the host's name
abbrev pub DialTells : ℕ → ℕ → Option DialCall → Option DialCall → DialCall
    → Result (Unit {0}) LinkFault → Type 0
DialTells before now was is call (Err OutOfMemory) =
    IsDialled before now is call ⊎ ((now ≡ before) × (is ≡ was))
DialTells before now was is call (Err Failed) = IsDialled before now is call
DialTells before now was is call (Ok _) = IsDialled before now is call
