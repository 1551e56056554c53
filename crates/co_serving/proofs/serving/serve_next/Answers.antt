use Rattle.std.proofs.Common.{◌∙◌}
use Rattle.co_serving.proofs.serving.serve_next.Goals as goal

pub returns-in-Ok-clause-beside : goal.returns-in-Ok-clause-beside
returns-in-Ok-clause-beside g c =
    g.met.C.Duplex.put_leaves_beside c.write_answer.new.sink c.read_message.new.line c.write_answer.ensures.beside
    ∙ g.met.C.Duplex.take_leaves_beside c.read_message.new.line c.args.line.now c.read_message.ensures.beside

pub returns-clause-beside : goal.returns-clause-beside
returns-clause-beside g c =
    g.met.C.Duplex.put_leaves_beside c.write_answer.new.sink c.read_message.new.line c.write_answer.ensures.beside
    ∙ g.met.C.Duplex.take_leaves_beside c.read_message.new.line c.args.line.now c.read_message.ensures.beside
