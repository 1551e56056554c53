-- Goals of `longest_length` that the check left open.
use Rattle.std.proofs.Common.{◌≡◌, ◌<◌, ◌^◌, length, sym, ◌∙◌, arith}
use Rattle.co_bucket.proofs.Counting.{short_at, longest_more}
use Rattle.co_bucket.proofs.rows.longest_length.Goals as goal

pub overflow_cast-len : goal.overflow_cast-len
overflow_cast-len c =
    let few : length c.index-lists-i.result.items < 2 ^ 32 = short_at c.args.lists.now c.loop-i.i c.index-lists-i.result c.requires c.loop-i-test.true c.index-lists-i.is in
    omega (arith, c.len.ensures)

pub loop-i-preserved : goal.loop-i-preserved
loop-i-preserved c =
    let is : c.len.result ≡ length c.index-lists-i.result.items = omega (arith, c.len.ensures) in
    sym (longest_more c.args.lists.now c.loop-i.i c.loop-i.most c.max-most.result c.len.result c.index-lists-i.result c.loop-i-test.true c.index-lists-i.is is c.max-most.ensures) ∙ c.loop-i.invariant
