-- What a port tells that tells nothing of content.
use Rattle.std.specs.Prelude.{None}
use Rattle.co_link.specs.Ports.{PortTells}
use Rattle.co_link.specs.declared.tcp_port.PortCalls.{PortCalls}

abbrev pub calls_told : PortCalls → PortTells
calls_told c = record {
  listening = c.listening;
  listens = c.listens;
  accepts = c.accepts;
  last_port = c.last_port;
  connected = c.connected;
  waiting = None;
  ended = None;
}
