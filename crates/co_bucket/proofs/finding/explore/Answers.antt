-- Goals of `explore` that the check left open.
use Rattle.std.proofs.Common.{◌≡◌, ◌<◌, [], length, get_or}
use Rattle.co_bucket.proofs.Reaching.{within_rows}
use Rattle.co_bucket.proofs.Exploring.{explored_of, explored_more, explored_all}
use Rattle.co_bucket.proofs.finding.explore.Goals as goal

pub bounds-candidates-index : goal.bounds-candidates-index
bounds-candidates-index c = within_rows _ _ _ _ _ _ _ c.requires.reached c.args.at _ c.requires.within c.requires.at c.index.ensures

pub reach-requires-clause-bucket : goal.reach-requires-clause-bucket
reach-requires-clause-bucket c =
    let y : c.index.result.now < length c.args.candidates.now = within_rows _ _ _ _ _ _ _ c.requires.reached c.args.at _ c.requires.within c.requires.at c.index.ensures in
    let three : length (get_or c.args.candidates.now c.index.result.now []) ≡ 3 = c.told-candidates c.index.result.now y in
    explored_of _ _ _ _ _ _ _ _ _ _ _ _ c.loop-bucket.invariant (rw three c.loop-bucket-test.true)

pub loop-bucket-preserved : goal.loop-bucket-preserved
loop-bucket-preserved c =
    explored_more _ _ _ _ _ _ _ _ _ _ _ _ c.loop-bucket.invariant _ _ _
    (rw c.in_default.is at c.in_ok-placed.ensures.placed) (rw c.in_default.is at c.in_ok-placed.ensures.kept) (rw c.in_default.is at c.in_ok-placed.ensures.closed)

pub returns-clause-closed : goal.returns-clause-closed
returns-clause-closed c =
    let y : c.index.result.now < length c.args.candidates.now = within_rows _ _ _ _ _ _ _ c.requires.reached c.args.at _ c.requires.within c.requires.at c.index.ensures in
    let three : length (get_or c.args.candidates.now c.index.result.now []) ≡ 3 = c.told-candidates c.index.result.now y in
    explored_all _ _ _ _ _ _ _ _ _ _ _ _ c.loop-bucket.invariant (rw three c.loop-bucket-test.false)
