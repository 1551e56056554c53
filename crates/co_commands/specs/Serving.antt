-- The command `serve`: what it prints, and when it refuses.
use Rattle.std.specs.Prelude.{◌≡◌, ◌≤◌, ◌<◌, ◌+◌, ◌⊎◌, [], ℕ, List, length, Option, IsSome, true, false}
use Rattle.co_link.specs.Causes.{Rose}
use Rattle.co_link.specs.Files.{Folder}
use Rattle.co_serving.specs.declared.ended.Served.{Served}
use Rattle.co_library.specs.Libraries.{Parts}
use Rattle.co_commands.specs.Words.{ServeWords}
use Rattle.co_commands.specs.Outside.{Outside, PortState, Took}
use Rattle.co_commands.specs.Locals.{CanBeServed, OpenCause}
use Rattle.co_commands.specs.Connections.{connection_lines, AreServed, Calls}
use Rattle.co_commands.specs.declared.refusals.Refusal.{Refusal}
use Rattle.co_commands.specs.declared.refusals.Refusal.TheVariants as refusals

-- the library of the file passes the test, and these connections, at most so many as are asked,
-- were accepted and served
pub record HasServed (p : ServeWords) (was is : Outside) (served : List Served) : Type 0 where
  pub library : Parts
  pub opened : CanBeServed was.files.held p.library library
  pub few : length served ≤ p.connections
  pub serves : AreServed library served was.devices.port is.devices.port

-- the lines of all connections, each of which was accepted by one call
pub record ServeAnswer (p : ServeWords) (was is : Outside) (text : List ℕ) : Type 0 where
  pub served : List Served
  pub serving : HasServed p was is served
  pub all : length served ≡ p.connections
  pub calls : Calls p.port (length served) was.devices.port.tells is.devices.port.tells
  pub text_is : text ≡ connection_lines 1 served

-- the lines of the connections so far
pub record ServeFront (p : ServeWords) (was is : Outside) (text : List ℕ) : Type 0 where
  pub served : List Served
  pub serving : HasServed p was is served
  pub calls : Calls p.port (length served) was.devices.port.tells is.devices.port.tells
  pub text_is : text ≡ connection_lines 1 served

-- the call to listen failed, or one to accept, and the output took the lines of the connections
-- before, which are fewer than are asked
pub record PortFails (p : ServeWords) (was is : Outside) : Type 0 where
  pub served : List Served
  pub serving : HasServed p was is served
  pub fewer : length served < p.connections
  pub rose : Rose was.devices.port.faults is.devices.port.faults
  pub took : Took was.out is.out (connection_lines 1 served)
  pub failed :
      ((is.devices.port.tells.listening ≡ false) × (served ≡ [])
      × Calls p.port 0 was.devices.port.tells is.devices.port.tells)
      ⊎ ((is.devices.port.tells.listening ≡ true)
      × Calls p.port (length served + 1) was.devices.port.tells is.devices.port.tells)

-- when `serve` refuses, but by the output: before it listens, which leaves the port, or by the port
abbrev pub ServeCause : ServeWords → Outside → Outside → Refusal → Type 0
ServeCause p was is refusals.Port = PortFails p was is
ServeCause p was is refusal =
    OpenCause p.library was.files is.files refusal × (is.devices.port ≡ was.devices.port)

-- a library that can be served: the file is told, and its library passes the test
pub record ServeDue (p : ServeWords) (held : Option Folder) : Type 0 where
  pub told : IsSome held
  pub library : Parts
  pub served : CanBeServed held p.library library

-- at most one call to listen, on the port, and at most so many to accept as there are connections
pub data CallsPort (p : ServeWords) (was is : PortState) : Type 0 where
  uncalled : is ≡ was → CallsPort p was is
  called : (accepts : ℕ) → accepts ≤ p.connections → Calls p.port accepts was.tells is.tells
      → CallsPort p was is
