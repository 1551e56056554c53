-- The steps of `serve`: one connection, and so many.
use Rattle.std.specs.Prelude.{◌≡◌, ◌≤◌, ◌<◌, ◌+◌, [], ◌∷◌, ℕ, List, length, true, Result, Ok, Err}
use Rattle.co_link.specs.Causes.{Rose, one_more}
use Rattle.co_link.specs.Ports.{PortTells}
use Rattle.co_serving.specs.declared.ended.Served.{Served}
use Rattle.co_library.specs.Libraries.{Parts}
use Rattle.co_commands.specs.Outside.{PortState, SinkState, Took, TookFront}
use Rattle.co_commands.specs.Connections.{connection_lines, AreServed, raised}
use Rattle.co_commands.specs.declared.refusals.Refusal.{Refusal}
use Rattle.co_commands.specs.declared.refusals.Refusal.TheVariants as refusals

-- a port that listens was called so often to accept, and not to listen
pub record Accepted (accepts : ℕ) (was is : PortTells) : Type 0 where
  pub listening : is.listening ≡ true
  pub listens : is.listens ≡ was.listens
  pub last_port : is.last_port ≡ was.last_port
  pub accepts_are : is.accepts ≡ raised was.accepts accepts

-- one connection was accepted and served
pub record ServesOne (library : Parts) (s : Served) (was is : PortState) : Type 0 where
  pub serves : AreServed library (s ∷ []) was is
  pub accepted : Accepted 1 was.tells is.tells
  pub faults : is.faults ≡ was.faults

-- a call to accept failed, which leaves all but its count
pub record AcceptFails (was is : PortState) : Type 0 where
  pub rose : Rose was.faults is.faults
  pub tells : is.tells ≡ record was.tells { accepts = one_more was.tells.accepts }
  pub put : is.put ≡ was.put
  pub take_faults : is.take_faults ≡ was.take_faults
  pub put_faults : is.put_faults ≡ was.put_faults

-- the next connection was accepted and served, or the call to accept failed
abbrev pub ServesNext : Parts → PortState → PortState → Result Served Refusal → Type 0
ServesNext library was is (Ok s) = ServesOne library s was is
ServesNext library was is (Err refusals.Port) = AcceptFails was is
ServesNext library was is (Err refusal) = ⊥

-- these connections were accepted and served, and the output took their lines
pub record ServedSoFar (library : Parts) (served : List Served) (was is : PortState)
    (out_was out_is : SinkState) : Type 0 where
  pub serves : AreServed library served was is
  pub accepted : Accepted (length served) was.tells is.tells
  pub took : Took out_was out_is (connection_lines 1 served)

-- the same where the output failed in the last line
pub record ServedFront (library : Parts) (served : List Served) (was is : PortState)
    (out_was out_is : SinkState) : Type 0 where
  pub serves : AreServed library served was is
  pub accepted : Accepted (length served) was.tells is.tells
  pub took : TookFront out_was out_is (connection_lines 1 served)

-- the same where the next call to accept failed
pub record ServedShort (library : Parts) (served : List Served) (was is : PortState)
    (out_was out_is : SinkState) : Type 0 where
  pub serves : AreServed library served was is
  pub accepted : Accepted (length served + 1) was.tells is.tells
  pub rose : Rose was.faults is.faults
  pub took : Took out_was out_is (connection_lines 1 served)

-- so many connections were served; or fewer, as the output or a call to accept failed
abbrev pub ServesSome : Parts → ℕ → PortState → PortState → SinkState → SinkState
    → Result (Unit {0}) Refusal → Type 0
ServesSome library connections was is out_was out_is (Ok _) =
    (served : List Served) × (length served ≡ connections)
    × ServedSoFar library served was is out_was out_is
ServesSome library connections was is out_was out_is (Err refusals.Output) =
    (served : List Served) × (length served ≤ connections)
    × ServedFront library served was is out_was out_is
ServesSome library connections was is out_was out_is (Err refusals.Port) =
    (served : List Served) × (length served < connections)
    × ServedShort library served was is out_was out_is
ServesSome library connections was is out_was out_is (Err refusal) = ⊥
