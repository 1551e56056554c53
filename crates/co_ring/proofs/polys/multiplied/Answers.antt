use Rattle.co_math.specs.Polynomials.{product}
use Rattle.co_ring.specs.Polynomials.{polynomial_of}
use Rattle.co_ring.proofs.polys.multiplied.Goals as goal

pub returns : goal.returns
returns c = c.inverse.ensures.back (product c.args.table.now.degree (polynomial_of c.args.a.now) (polynomial_of c.args.b.now)) c.in_ok-values.ensures.values
