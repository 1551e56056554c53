use Rattle.std.proofs.Common.{◌*◌, ◌+◌, ◌/◌, ◌^◌, ◌<◌, arith}
use Rattle.co_noise.proofs.Ranges.{score_small}
use Rattle.co_noise.proofs.bounds.score_bound.Goals as goal

bound : (c : goal.After-keyword_blocks) → c.keyword_blocks.result * (c.degree-degree.result / 2) * c.degree-degree.result * 32768 * (c.fresh_bound.result + c.log2_up-turns.result * c.switch_bound.result) < 2 ^ 112
bound c = score_small c.keyword_blocks.result (c.degree-degree.result / 2) c.degree-degree.result c.fresh_bound.result c.log2_up-turns.result c.switch_bound.result
    c.keyword_blocks.ensures.few (omega (arith, c.degree-degree.ensures.ranges)) (omega (arith, c.degree-degree.ensures.ranges)) c.fresh_bound.ensures (c.log2_up-turns.ensures.few (omega (arith, c.degree-degree.ensures.ranges))) c.switch_bound.ensures.small

pub overflow_mul-result-4 : goal.overflow_mul-result-4
overflow_mul-result-4 c = omega (arith, bound c)

pub returns-clause-small : goal.returns-clause-small
returns-clause-small c = bound c
