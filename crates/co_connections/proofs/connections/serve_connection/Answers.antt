use Rattle.co_connections.proofs.Stepping.{serves_library}
use Rattle.co_connections.proofs.connections.serve_connection.Goals as goal

pub returns-clause-serves : goal.returns-clause-serves
returns-clause-serves g c =
    serves_library c.args.loaded.now _ c.serve_by.new.answering (g.C.Source.left c.args.line.now) (g.C.Source.left c.serve_by.new.line) (g.C.Sink.put_so_far c.args.line.now) (g.C.Sink.put_so_far c.serve_by.new.line)
    c.serve_by.result.requests c.serve_by.result.ended c.new-service.ensures c.serve_by.ensures.serves
