use Rattle.std.proofs.Common.{arith}
use Rattle.co_commands.proofs.Telling.{number_more}
use Rattle.co_commands.proofs.search_faults.put_numbers.Goals as goal

pub loop-number-preserved : goal.loop-number-preserved
loop-number-preserved g c =
    let more = c.put_parts.ensures.later in
    record {
      later = omega (arith, c.loop-number.invariant.later, more);
      took = λ kept. number_more c.args.numbers.now c.loop-number.number-index _ _ _ _ _ c.loop-number-test.true c.format.ensures.text
          (c.loop-number.invariant.took (λ rose. kept (omega (arith, rose, more))))
          (c.put_parts.ensures.says (λ rose. kept (omega (arith, rose, c.loop-number.invariant.later))));
    }
