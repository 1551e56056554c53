-- The link stays ready.
use Rattle.std.proofs.Common.{◌≡◌, true}
use Rattle.coeus_vectors.proofs.session.put_replies.Given as goal

abbrev pub invariant-loop-fields : goal.invariant-loop-fields
invariant-loop-fields g l = g.K.Link.is_ready l.link ≡ true
