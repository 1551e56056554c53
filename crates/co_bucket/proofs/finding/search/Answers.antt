-- Goals of `search` that the check left open.
use Rattle.std.proofs.Common.{◌≤◌, ◌<◌, length, arith}
use Rattle.co_bucket.proofs.Exploring.{searched_less, searched_more, searched_all}
use Rattle.co_bucket.proofs.finding.search.Goals as goal

pub loop-at-smaller : goal.loop-at-smaller
loop-at-smaller c =
    let below : c.loop-at.at < length c.loop-at.reached.items.items = omega (arith, c.len.ensures) in
    let less : c.loop-at.at < c.args.count = searched_less _ _ _ _ _ _ _ _ c.loop-at.invariant below in
    omega arith

pub loop-at-preserved : goal.loop-at-preserved
loop-at-preserved c =
    let below : c.loop-at.at < length c.loop-at.reached.items.items = omega (arith, c.len.ensures) in
    searched_more _ _ _ _ _ _ _ _ c.loop-at.invariant below _ _ _
    (rw c.in_default.is at c.in_ok-placed.ensures.placed) (rw c.in_default.is at c.in_ok-placed.ensures.kept) (rw c.in_default.is at c.in_ok-placed.ensures.closed)

pub returns : goal.returns
returns c =
    let past : length c.loop-at.reached.items.items ≤ c.loop-at.at = omega (arith, c.len.ensures) in
    searched_all _ _ _ _ _ _ _ _ c.loop-at.invariant past
