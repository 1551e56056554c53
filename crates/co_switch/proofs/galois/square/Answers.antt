use Rattle.std.proofs.Common.{◌*◌, ◌≤◌, arith}
use Rattle.std.proofs.Math.Nat.{mul-le-mul}
use Rattle.co_switch.proofs.galois.square.Goals as goal

pub overflow_mul-result : goal.overflow_mul-result
overflow_mul-result c =
    let few : c.args.element ≤ 8191 = omega arith in
    let product : c.args.element * c.args.element ≤ 8191 * 8191 = mul-le-mul few few in
    omega (arith, product)
