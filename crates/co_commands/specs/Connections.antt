-- Connections on which a library is served, one after another: their lines, and what was said on
-- them.
use Rattle.std.specs.Prelude.{◌≡◌, ◌≤◌, ◌+◌, ◌-◌, ◌^◌, ◌++◌, [], ◌∷◌, ℕ, suc, zero, Bool, true, false, List, length, map, All, filter, codes, decimal, min, Option, Some, option_map, option_and_then}
use Rattle.co_link.specs.Causes.{one_more}
use Rattle.co_link.specs.Ports.{PortTells, ended_with}
use Rattle.co_serving.specs.declared.ended.Ended.{Ended}
use Rattle.co_serving.specs.declared.ended.Ended.TheVariants as ended
use Rattle.co_serving.specs.declared.ended.Served.{Served}
use Rattle.co_library.specs.Libraries.{Parts}
use Rattle.co_connections.specs.Serving.{ServesLibrary}
use Rattle.co_commands.specs.Outside.{PortState}

-- ---- lines

-- how a connection ended
abbrev pub end_text : Ended → List ℕ
end_text ended.Closed = codes "closed"
end_text (ended.Refused status) = codes "refused " ++ decimal status
end_text ended.Cut = codes "cut"
end_text ended.Spent = codes "spent"
end_text ended.ReadFault = codes "read fault"
end_text ended.WriteFault = codes "write fault"
end_text ended.OutOfMemory = codes "memory"

-- the line of a connection: its number, how many responses were written whole, and how it ended
abbrev pub connection_line : ℕ → Served → List ℕ
connection_line number s =
    codes "connection " ++ (decimal number ++ (codes " requests " ++ (decimal s.requests
    ++ (codes " " ++ (end_text s.ended ++ (10 ∷ []))))))

-- the lines of connections that are numbered from this on
abbrev pub connection_lines : ℕ → List Served → List ℕ
connection_lines number [] = []
connection_lines number (s ∷ more) = connection_line number s ++ connection_lines (number + 1) more

-- ---- one connection

-- a connection that was served: its input, its output, and how it was served
pub record Connection : Type 0 where
  pub input : List ℕ
  pub output : List ℕ
  pub served : Served

-- its output is that of a conversation of its input with a session over the library, by its end;
-- something of the input may be left
pub record IsServed (library : Parts) (c : Connection) : Type 0 where
  pub left : Option (List ℕ)
  pub conversation :
      ServesLibrary library c.input left [] (Some c.output) c.served.requests c.served.ended

-- ---- all of them

-- the outputs of a port's connections, that of the current one last, where the port tells them
abbrev pub outputs_of : PortState → Option (List (List ℕ))
outputs_of p = option_and_then (λ outputs. option_map (λ put.
    ended_with p.tells.connected outputs put) p.put) p.tells.ended

-- connections that were served one after another came in the order in which their inputs had
-- waited, and their outputs stand behind the earlier ones
pub record Came (library : Parts) (served : List Served) (waiting outputs : List (List ℕ))
    (is : PortState) : Type 0 where
  pub connections : List Connection
  pub are : map (λ c. c.served) connections ≡ served
  pub talked : All (IsServed library) connections
  pub rest : List (List ℕ)
  pub inputs : waiting ≡ map (λ c. c.input) connections ++ rest
  pub waits : is.tells.waiting ≡ Some rest
  pub outputs_are : outputs_of is ≡ Some (outputs ++ map (λ c. c.output) connections)

abbrev pub is_read_fault : Ended → Bool
is_read_fault ended.ReadFault = true
is_read_fault other = false

abbrev pub is_write_fault : Ended → Bool
is_write_fault ended.WriteFault = true
is_write_fault other = false

-- a count of faults rose by at least so many, or stands at the last value of a 64-bit counter
abbrev pub RoseBy : ℕ → ℕ → ℕ → Type 0
RoseBy number before now = min (before + number) (2 ^ 64 - 1) ≤ now

-- on so many connections the library was served: where the port tells inputs and outputs, each line
-- is that of a conversation; no more of them tell a fault of taking, or of putting, than such
-- faults came
pub record AreServed (library : Parts) (served : List Served) (was is : PortState) : Type 0 where
  pub told : (waiting outputs : List (List ℕ)) → was.tells.waiting ≡ Some waiting
      → outputs_of was ≡ Some outputs → Came library served waiting outputs is
  pub read_faults : RoseBy (length (filter (λ s. is_read_fault s.ended) served))
      was.take_faults is.take_faults
  pub write_faults : RoseBy (length (filter (λ s. is_write_fault s.ended) served))
      was.put_faults is.put_faults

-- ---- calls of the port

-- a count after so many more, up to the last value of a 64-bit counter
abbrev pub raised : ℕ → ℕ → ℕ
raised count zero = count
raised count (suc more) = min (count + suc more) (2 ^ 64 - 1)

-- one call to listen, on this port, and so many to accept
pub record Calls (port accepts : ℕ) (was is : PortTells) : Type 0 where
  pub listens : is.listens ≡ one_more was.listens
  pub last_port : is.last_port ≡ Some port
  pub accepts_are : is.accepts ≡ raised was.accepts accepts
