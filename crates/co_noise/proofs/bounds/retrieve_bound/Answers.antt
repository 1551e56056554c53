use Rattle.std.proofs.Common.{◌*◌, ◌+◌, ◌-◌, ◌%◌, ◌^◌, ◌<◌, ◌≤◌, arith}
use Rattle.co_noise.specs.Limits.{most_rows}
use Rattle.co_noise.proofs.Ranges.{retrieve_small, within, degree_ranges}
use Rattle.co_noise.proofs.bounds.retrieve_bound.Goals as goal

bound : (c : goal.After-switch_bound)
    → c.args.rows * c.args.degree * 32768 * ((1 * 2 ^ c.log2_up.result) % 2 ^ 128 * c.fresh_bound.result + ((1 * 2 ^ c.log2_up.result) % 2 ^ 128 - 1) * c.switch_bound.result) < 2 ^ 112
bound c =
    let few : c.args.rows ≤ 65536 = (within 1 most_rows c.args.rows c.requires.rows).1 in
    retrieve_small c.args.rows c.args.degree c.fresh_bound.result c.log2_up.result c.switch_bound.result
    few (degree_ranges c.args.degree c.requires.degree).high c.fresh_bound.ensures (c.log2_up.ensures.few few) c.switch_bound.ensures.small

pub overflow_mul-result-3 : goal.overflow_mul-result-3
overflow_mul-result-3 c = omega (arith, bound c)

pub returns-clause-small : goal.returns-clause-small
returns-clause-small c = bound c
