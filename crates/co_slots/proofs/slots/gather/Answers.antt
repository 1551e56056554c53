use Rattle.std.proofs.Common.{◌/◌, length, get_or, set, refl, ap, ◌∙◌, arith}
use Rattle.std.proofs.lemmas.List.{length-set}
use Rattle.co_transform.proofs.Reversals.{bit_reversal-lt}
use Rattle.co_slots.specs.Slots.{exponent_of}
use Rattle.co_slots.proofs.Placing.{one_gathered, at_place}
use Rattle.co_slots.proofs.slots.gather.Goals as goal

pub leaf-requires : goal.leaf-requires
leaf-requires c =
    let d = c.requires.degree in
    let b = bit_reversal-lt d.exponent (exponent_of (length c.args.into.now) c.loop-p.p / 2) in
    omega (arith, c.requires.places.each d.exponent c.loop-p.p d.is (omega arith), b, d.is, c.requires.one_degree)

pub loop-p-preserved : goal.loop-p-preserved
loop-p-preserved c =
    let d = c.requires.degree in
    let n = length c.args.into.now in
    let p = c.loop-p.p in
    let at = get_or c.args.places.now p 0 in
    let is = c.leaf.ensures d.exponent (c.requires.one_degree ∙ d.is) ∙ ap (λ k. get_or c.args.values.now.values k 0) (at_place n p at d (c.requires.places.each d.exponent p d.is (omega arith))) in
    record {
      len = length-set c.loop-p.into p c.leaf.result ∙ c.loop-p.invariant.len;
      gathered = one_gathered n p c.leaf.result c.loop-p.into (set c.loop-p.into p c.leaf.result) c.args.values.now.values (omega arith) c.loop-p.invariant.len is refl c.loop-p.invariant.gathered;
    }
