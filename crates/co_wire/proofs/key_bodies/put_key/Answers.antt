use Rattle.std.proofs.Common.{◌<◌, ◌∙◌, sym, length, arith}
use Rattle.co_wire.proofs.Keyed.{pairs-more}
use Rattle.co_wire.proofs.key_bodies.put_key.Goals as goal

pub loop-index-preserved : goal.loop-index-preserved
loop-index-preserved c =
    let key = c.args.key.now in
    let k = c.loop-index.index in
    let low : k < length key.k0 = omega (arith, c.loop-index-test.true, c.degree.ensures.key.k0_count) in
    pairs-more key.k0 key.k1 k c.args.out.now.items c.loop-index.out.items c.put_polynomial.new.out.items c.put_polynomial-in-loop-index.new.out.items c.k0.result.now c.k1.result.now low
    (c.degree.ensures.key.k1_count ∙ sym c.degree.ensures.key.k0_count) c.loop-index.invariant c.in_ok-put_polynomial.ensures c.in_ok-put_polynomial-2.ensures c.k0.ensures c.k1.ensures
