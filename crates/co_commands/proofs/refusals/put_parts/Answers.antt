use Rattle.std.proofs.Common.{arith}
use Rattle.co_commands.proofs.Telling.{part_more}
use Rattle.co_commands.proofs.refusals.put_parts.Goals as goal

pub loop-part-preserved : goal.loop-part-preserved
loop-part-preserved g c =
    let more = c.put.ensures.cause.later in
    record {
      later = omega (arith, c.loop-part.invariant.later, more);
      took = λ kept. part_more c.args.parts.now c.loop-part.part-index _ _ _ _ _ c.put.result c.loop-part-test.true c.as_bytes.ensures.value
          c.if-is_err.ensures.negation (c.loop-part.invariant.took (λ rose. kept (omega (arith, rose, more)))) c.put.ensures.bytes;
    }
