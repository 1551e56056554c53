use Rattle.std.proofs.Common.{◌-◌}
use Rattle.co_commands.specs.Outside.{port_by, sink_by}
use Rattle.co_commands.proofs.Talks.{SoFar}
use Rattle.co_commands.proofs.serving.serve_all.Given as goal

abbrev pub invariant-serving : goal.invariant-serving
invariant-serving g l =
    SoFar l.loaded l.number l.connections
    (port_by g.P.Port.tells g.P.Port.faults g.P.Source.left g.P.Sink.put_so_far g.P.Source.faults g.P.Sink.faults l.initial.port)
    (port_by g.P.Port.tells g.P.Port.faults g.P.Source.left g.P.Sink.put_so_far g.P.Source.faults g.P.Sink.faults l.port)
    (sink_by g.O.Sink.put_so_far g.O.Sink.faults l.initial.out) (sink_by g.O.Sink.put_so_far g.O.Sink.faults l.out)

abbrev pub decreases-serving : goal.decreases-serving
decreases-serving g l = l.connections - l.number
