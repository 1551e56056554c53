use Rattle.std.proofs.Common.{arith}
use Rattle.std.proofs.lemmas.Result.{err_from_is_err_and}
use Rattle.co_commands.proofs.Rehearsing.{tried_few, tried_next, not_tried, all_tried}
use Rattle.co_commands.proofs.rehearse.try_all.Goals as goal

pub try_query-requires-clause-agree : goal.try_query-requires-clause-agree
try_query-requires-clause-agree g c =
    (tried_few c.args.command.now c.args.ready.now.loaded c.loop-place.place (g.R.Rng.stream c.args.rng.now) (g.R.Rng.stream c.loop-place.rng) c.loop-place.tally c.loop-place-test.true c.loop-place.invariant).0

pub try_query-requires-clause-unplaced : goal.try_query-requires-clause-unplaced
try_query-requires-clause-unplaced g c =
    (tried_few c.args.command.now c.args.ready.now.loaded c.loop-place.place (g.R.Rng.stream c.args.rng.now) (g.R.Rng.stream c.loop-place.rng) c.loop-place.tally c.loop-place-test.true c.loop-place.invariant).1

pub returns-in_err-try_query-clause-cause : goal.returns-in_err-try_query-clause-cause
returns-in_err-try_query-clause-cause g c =
    let p = err_from_is_err_and c.from_residual.result c.from_residual.ensures.1 in
    rw (p.1, p.2)
    (not_tried c.args.command.now c.args.ready.now.loaded c.loop-place.place (g.R.Rng.stream c.args.rng.now) (g.R.Rng.stream c.loop-place.rng) (g.R.Rng.stream c.try_query.new.rng) c.loop-place.tally
    c.in_err-try_query.field-0.0 c.loop-place-test.true c.requires.ready.library c.loop-place.invariant c.in_err-try_query.ensures)

pub loop-place-preserved : goal.loop-place-preserved
loop-place-preserved g c =
    tried_next c.args.command.now c.args.ready.now.loaded c.loop-place.place (g.R.Rng.stream c.args.rng.now) (g.R.Rng.stream c.loop-place.rng) (g.R.Rng.stream c.try_query.new.rng) c.loop-place.tally c.try_query.new.tally
    c.loop-place-test.true c.loop-place.invariant c.in_ok-try_query.ensures

pub returns-clause-ok : goal.returns-clause-ok
returns-clause-ok g c =
    all_tried c.args.command.now c.args.ready.now.loaded c.loop-place.place (g.R.Rng.stream c.args.rng.now) (g.R.Rng.stream c.loop-place.rng) c.loop-place.tally (omega (arith, c.loop-place-test.false)) c.loop-place.invariant
