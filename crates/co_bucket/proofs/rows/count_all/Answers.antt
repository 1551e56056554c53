-- Goals of `count_all` that the check left open.
use Rattle.std.proofs.Common.{◌+◌, ◌<◌, length, get_or, take, sym, subst}
use Rattle.std.proofs.lemmas.List.{take_more}
use Rattle.co_bucket.specs.Filling.{IsStepped}
use Rattle.co_bucket.proofs.Stepping.{stepped_more}
use Rattle.co_bucket.proofs.rows.count_all.Goals as goal

pub loop-i-preserved : goal.loop-i-preserved
loop-i-preserved c =
    let in_counts : get_or c.args.row.now c.loop-i.i 0 < length c.args.counts.now = c.requires.within c.loop-i.i 0 c.loop-i-test.true in
    subst (λ seen. IsStepped 0 (λ n. n + 1) c.args.counts.now seen c.count_once.new.counts) (sym (take_more c.args.row.now c.loop-i.i 0 c.loop-i-test.true))
    (stepped_more 0 (λ n. n + 1) c.args.counts.now c.loop-i.counts c.count_once.new.counts (take c.loop-i.i c.args.row.now) (get_or c.args.row.now c.loop-i.i 0) in_counts c.loop-i.invariant c.count_once.ensures)
