use Rattle.std.proofs.Common.{◌*◌, take}
use Rattle.co_client.specs.Openings.{AreSpelled}
use Rattle.co_client.proofs.reading.check_reply.Given as goal

abbrev pub invariant-loop-at : goal.invariant-loop-at
invariant-loop-at l = AreSpelled l.fn.degree l.at (take (l.at * (28 * l.fn.degree)) l.body)
