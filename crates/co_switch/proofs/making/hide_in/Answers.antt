use Rattle.std.proofs.Common.{length}
use Rattle.co_math.specs.Polynomials.{product}
use Rattle.co_math.specs.Coefficients.{coefficients, signed_coefficients}
use Rattle.co_switch.proofs.Adding.{pair_is}
use Rattle.co_switch.proofs.making.hide_in.Goals as goal

pub returns : goal.returns
returns c = λ e is.
    let n = length c.args.secret.now in
    pair_is n e (product n (coefficients c.args.uniform.now) (signed_coefficients c.args.secret.now)) c.args.hidden.now c.args.sum.now c.in_ok-product.product c.sub_in.new.self c.add_in.new.self
    is c.in_ok-product.ensures.value c.sub_in.ensures c.add_in.ensures
