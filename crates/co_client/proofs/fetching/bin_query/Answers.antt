use Rattle.std.proofs.Common.{◌∙◌, arith}
use Rattle.co_rounds.specs.Asked.{row_message}
use Rattle.co_client.proofs.Drawn.{query-drawn}
use Rattle.co_client.proofs.fetching.bin_query.Goals as goal

pub returns-clause-body : goal.returns-clause-body
returns-clause-body g c =
    let message = row_message c.args.reader.now.shape.degree c.args.reader.now.shape.bins c.args.bin in
    c.from_vec.ensures
    ∙ (query-drawn c.args.reader.now.secret message (g.R.Rng.stream c.args.rng.now) c.in_ok-body.body.items c.put_row.new.body.items (g.R.Rng.stream c.put_row.new.rng) c.in_ok-body.ensures.items
    (grind (arith, c.in_ok-put_row.ensures.spelled)) (grind (arith, c.in_ok-put_row.ensures.rest))).spelled

pub returns-clause-rest : goal.returns-clause-rest
returns-clause-rest g c =
    let message = row_message c.args.reader.now.shape.degree c.args.reader.now.shape.bins c.args.bin in
    (query-drawn c.args.reader.now.secret message (g.R.Rng.stream c.args.rng.now) c.in_ok-body.body.items c.put_row.new.body.items (g.R.Rng.stream c.put_row.new.rng) c.in_ok-body.ensures.items
    (grind (arith, c.in_ok-put_row.ensures.spelled)) (grind (arith, c.in_ok-put_row.ensures.rest))).left
