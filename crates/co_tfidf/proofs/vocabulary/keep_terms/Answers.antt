-- One term more is kept, and there is room for one less.
use Rattle.std.proofs.Common.{◌≡◌, ◌-◌, suc, arith}
use Rattle.co_tfidf.proofs.vocabulary.keep_terms.Goals as goal

pub loop-term-preserved : goal.loop-term-preserved
loop-term-preserved c =
    let more : c.loop-term.room ≡ suc (c.loop-term.room - 1) = omega arith in
    rw c.in_ok-keep_term.ensures (rw (c.in-Some.ensures.steps, more) at c.loop-term.invariant)
