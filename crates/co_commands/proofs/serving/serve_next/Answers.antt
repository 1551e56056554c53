use Rattle.std.proofs.Common.{◌∙◌}
use Rattle.co_commands.specs.Outside.{port_by}
use Rattle.co_commands.proofs.Talks.{one_served}
use Rattle.co_commands.proofs.serving.serve_next.Goals as goal

pub returns : goal.returns
returns g c =
    let mid = port_by g.P.Port.tells g.P.Port.faults g.P.Source.left g.P.Sink.put_so_far g.P.Source.faults g.P.Sink.faults c.accept.new.self in
    let s = c.serve_connection in
    one_served c.args.loaded.now s.result _ mid _ c.requires.listens c.in-Ok.ensures.tells c.in-Ok.ensures.takes c.in-Ok.ensures.puts
    (g.met.P.Port.both_leave_port _ _ s.ensures.beside) s.ensures.serves s.ensures.takes_later s.ensures.puts_later s.ensures.read_fault s.ensures.write_fault
    (g.met.P.Port.both_leave_port_faults _ _ s.ensures.beside ∙ c.in-Ok.ensures.cause.same)
