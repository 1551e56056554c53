-- A sink in memory.
use Rattle.std.specs.Prelude.{◌≡◌, ◌≤◌, ◌↔◌, ℕ, false, ◌-◌, if◌then◌else◌, List, ◌++◌, length, take, Result, IsOk}
use Rattle.co_link.specs.Calls.{Calls, is_to_fail, after_call}
use Rattle.co_link.specs.declared.sink.Failed.{Failed}
use Rattle.co_link.specs.declared.memory_sink.MemorySink.{MemorySink}

-- what was put
abbrev pub sink_bytes : MemorySink → List ℕ
sink_bytes s = s.held.items

-- the most bytes that it takes
abbrev pub sink_room : MemorySink → ℕ
sink_room s = s.room

-- its puts
abbrev pub sink_calls : MemorySink → Calls
sink_calls s = s.calls

-- a put that is to fail appends nothing; any other appends what the room allows, and is Ok where
-- that is the whole piece
pub record PutsWithinRoom (old new : MemorySink) (piece : List ℕ)
    (result : Result (Unit {0}) Failed) : Type 0 where
  pub room : sink_room new ≡ sink_room old
  pub calls : sink_calls new ≡ after_call (sink_calls old)
  pub bytes : sink_bytes new ≡ (if is_to_fail (sink_calls old) then sink_bytes old
      else sink_bytes old ++ take (sink_room old - length (sink_bytes old)) piece)
  pub ok : IsOk result ↔ ((is_to_fail (sink_calls old) ≡ false)
      × (length piece ≤ sink_room old - length (sink_bytes old)))
