-- All sums have theirs.
use Rattle.std.proofs.Common.{◌≡◌, ◌<◌, ◌∙◌, subst, arith, length, get_or}
use Rattle.std.proofs.lemmas.List.{get_or_default}
use Rattle.std.proofs.lemmas.List.Elements.{All-set}
use Rattle.co_spectra.specs.Sums.{CipherSums}
use Rattle.co_matvec.specs.Sums.{IsAdded, no_sum, sum_at}
use Rattle.co_matvec.proofs.Reaching.{none_reached, more_reached}
use Rattle.co_matvec.proofs.units.add_sums.Goals as goal

pub loop-a-init : goal.loop-a-init
loop-a-init c = record { added = none_reached (λ a x y. IsAdded x (sum_at c.args.others.now a) y) c.args.sums.now; degrees = c.requires.degrees; room = c.requires.room_degree }

pub loop-a-preserved : goal.loop-a-preserved
loop-a-preserved c =
    let i = c.loop-a.invariant in
    let inside : c.loop-a.a < length c.loop-a.sums = omega (arith, c.loop-a-test.true, i.added.count) in
    let other : c.loop-a.a < length c.args.others.now = omega (arith, inside, i.added.count, c.requires.count) in
    let read = c.index-others-a.is ∙ get_or_default c.args.others.now c.loop-a.a c.index-others-a.result no_sum other in
    record {
      added = more_reached (λ a x y. IsAdded x (sum_at c.args.others.now a) y) c.loop-a.a c.args.sums.now c.loop-a.sums i.added c.index-sums-a.result c.add_sum.new.sum (omega (arith, inside, i.added.count))
          (subst (λ (y : CipherSums). IsAdded (get_or c.loop-a.sums c.loop-a.a c.index-sums-a.result) y c.add_sum.new.sum) read c.add_sum.ensures.sum);
      degrees = All-set (λ (s : CipherSums). s.degree ≡ c.args.n) c.loop-a.sums c.loop-a.a c.add_sum.new.sum (c.add_sum.ensures.sum.degree ∙ i.degrees c.loop-a.a c.index-sums-a.result inside) i.degrees;
      room = c.add_sum.ensures.room_degree;
    }

pub returns-clause-added : goal.returns-clause-added
returns-clause-added c = let i = c.loop-a.invariant in record { count = i.added.count; each = λ a u. i.added.first a (omega arith) u }
