-- A port in memory.
use Rattle.std.specs.Prelude.{ℕ, Bool, List, [], ◌==◌, length, map, false, Option, Some, None, is_some}
use Rattle.co_link.specs.Calls.{Calls}
use Rattle.co_link.specs.Ports.{PortTells}
use Rattle.co_link.specs.Fresh.{input_of, output_of}
use Rattle.co_link.specs.declared.memory_connection.MemoryConnection.{MemoryConnection}
use Rattle.co_link.specs.declared.memory_port.MemoryPort.{MemoryPort}

-- what is left to take, and what was put: nothing without a connection
abbrev pub left_of : Option MemoryConnection → List ℕ
left_of None = []
left_of (Some c) = input_of c

abbrev pub put_of : Option MemoryConnection → List ℕ
put_of None = []
put_of (Some c) = output_of c

abbrev pub port_left : MemoryPort → List ℕ
port_left p = left_of p.current

abbrev pub port_put : MemoryPort → List ℕ
port_put p = put_of p.current

-- its calls to listen and to accept
abbrev pub port_calls : MemoryPort → Calls
port_calls p = p.calls

-- whether no connection waits
abbrev pub is_nothing_waiting : MemoryPort → Bool
is_nothing_waiting p = length p.waiting.items == 0

-- what it tells beside its current connection
abbrev pub port_tells : MemoryPort → PortTells
port_tells p = record {
  listening = p.listening;
  listens = p.listens;
  accepts = p.accepts;
  last_port = p.last_port;
  connected = is_some p.current;
  waiting = Some (map input_of p.waiting.items);
  ended = Some (map output_of p.ended.items);
}

-- what it tells of its current connection
abbrev pub told_left : MemoryPort → Option (List ℕ)
told_left p = Some (port_left p)

abbrev pub told_put : MemoryPort → Option (List ℕ)
told_put p = Some (port_put p)

-- what a call of one direction leaves: the content and the faults of the other, and the port's
abbrev pub Others : Type 0
Others = Option (List ℕ) × ℕ × PortTells × ℕ

-- what it tells at first
abbrev pub told_at_first : List MemoryConnection → PortTells
told_at_first waiting = record {
  listening = false;
  listens = 0;
  accepts = 0;
  last_port = None;
  connected = false;
  waiting = Some (map input_of waiting);
  ended = Some [];
}
