use Rattle.std.proofs.Common.{ℕ, List, ap, subst, ◌∙◌}
use Rattle.co_link.specs.Held.{TookWhole}
use Rattle.co_http.specs.Requests.{request_bytes}
use Rattle.co_http.proofs.Appended.{sent_prefix}
use Rattle.co_http.proofs.http_link.HttpLink.try_exchange.Goals as goal

pub returns-in-Err-Bad-clause-sends : goal.returns-in-Err-Bad-clause-sends
returns-in-Err-Bad-clause-sends g c =
    let put = g.C.Sink.put_so_far in
    let P : List ℕ → Type 0 = λ host. TookWhole (put c.args.self.now.line) (put c.put_request.new.sink) (request_bytes host c.args.request.now.target c.args.request.now.body) in
    sent_prefix (put c.args.self.now.line) (put c.put_request.new.sink) (put c.count_own.new.self.line) _ (subst P c.as_slice.ensures c.in_ok-put_request.ensures.sends)
    (ap put c.count_own.ensures.line ∙ g.met.C.Duplex.take_leaves_put _ _ c.read_reply.ensures.beside)

pub returns-in-Err-Failed-clause-sends : goal.returns-in-Err-Failed-clause-sends
returns-in-Err-Failed-clause-sends g c =
    let put = g.C.Sink.put_so_far in
    let P : List ℕ → Type 0 = λ host. TookWhole (put c.args.self.now.line) (put c.put_request.new.sink) (request_bytes host c.args.request.now.target c.args.request.now.body) in
    sent_prefix (put c.args.self.now.line) (put c.put_request.new.sink) (put c.read_reply.new.source) _ (subst P c.as_slice.ensures c.in_ok-put_request.ensures.sends)
    (g.met.C.Duplex.take_leaves_put _ _ c.read_reply.ensures.beside)

pub returns-in-Err-OutOfMemory-clause-sends : goal.returns-in-Err-OutOfMemory-clause-sends
returns-in-Err-OutOfMemory-clause-sends g c =
    let put = g.C.Sink.put_so_far in
    let P : List ℕ → Type 0 = λ host. TookWhole (put c.args.self.now.line) (put c.put_request.new.sink) (request_bytes host c.args.request.now.target c.args.request.now.body) in
    sent_prefix (put c.args.self.now.line) (put c.put_request.new.sink) (put c.read_reply.new.source) _ (subst P c.as_slice.ensures c.in_ok-put_request.ensures.sends)
    (g.met.C.Duplex.take_leaves_put _ _ c.read_reply.ensures.beside)
