use Rattle.std.proofs.Common.{take, map}
use Rattle.co_bucket.specs.Bytes.{record_row}
use Rattle.co_client.specs.Rounds.{record_messages}
use Rattle.co_client.proofs.Drawn.{IsDrawn}
use Rattle.co_client.proofs.recording.record_queries.Given as goal

abbrev pub invariant-loop-place : goal.invariant-loop-place
invariant-loop-place g l =
    IsDrawn l.reader.secret (record_messages l.reader.shape (map (record_row l.reader.shape.degree) (take l.place-index l.places))) (g.R.Rng.stream l.fn.rng) l.body.items (g.R.Rng.stream l.rng)
