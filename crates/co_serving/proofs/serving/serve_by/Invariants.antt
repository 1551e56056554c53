use Rattle.std.proofs.Common.{◌≡◌, ◌-◌, ◌≤◌, None, false}
use Rattle.std.specs.Prelude.{IfSome}
use Rattle.co_http.specs.Conn.{unread, kept, cannot_write}
use Rattle.co_serving.specs.Reading.{SoFar}
use Rattle.co_serving.proofs.serving.serve_by.Given as goal

abbrev pub invariant-serving : goal.invariant-serving
invariant-serving g l = record {
  told : IfSome (g.C.Source.left l.fn.line) (λ input. IfSome (g.C.Sink.put_so_far l.fn.line) (λ put.
      SoFar g.A.Lengths.wanted g.A.Answering.answers l.fn.answering l.answering input (unread l.conn (g.C.Source.left l.line)) put (g.C.Sink.put_so_far l.line) l.requests));
  ready : g.A.Answering.may_answer l.answering;
  kept : kept l.conn ≡ None;
  writes : cannot_write l.conn ≡ false;
  most : l.requests ≤ 1000;
  takes_later : g.C.Source.faults l.fn.line ≤ g.C.Source.faults l.line;
  beside : g.C.Duplex.beside l.line ≡ g.C.Duplex.beside l.fn.line;
  puts_later : g.C.Sink.faults l.fn.line ≤ g.C.Sink.faults l.line;
}

abbrev pub decreases-serving : goal.decreases-serving
decreases-serving g l = 1000 - l.requests
