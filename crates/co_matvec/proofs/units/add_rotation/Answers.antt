-- All sums have the rotation.
use Rattle.std.proofs.Common.{◌≡◌, ℕ, ◌<◌, ◌∙◌, subst, arith, length}
use Rattle.std.proofs.lemmas.List.Elements.{All-set}
use Rattle.co_spectra.specs.Sums.{CipherSums}
use Rattle.co_spectra.specs.Values.{AreCipherValues}
use Rattle.co_matvec.specs.Units.{AddsDiagonal}
use Rattle.co_matvec.proofs.Reaching.{none_reached, more_reached}
use Rattle.co_matvec.proofs.units.add_rotation.Goals as goal

pub loop-a-init : goal.loop-a-init
loop-a-init c = record { added = none_reached (λ a x y. AddsDiagonal c.args.weights.now a c.args.k c.args.i c.args.cipher.now x y) c.args.sums.now; degrees = c.requires.degrees; room = c.requires.room_degree }

pub add_diagonal-requires-clause-turned_degree : goal.add_diagonal-requires-clause-turned_degree
add_diagonal-requires-clause-turned_degree c =
    let v = subst (λ (n : ℕ). AreCipherValues n c.args.cipher.now c.in_ok-turned.turned) c.tables.ensures c.in_ok-turned.ensures in
    let x = v.c0.first_values in
    let y = v.c1.first_values in
    record { c0 = x.len; c1 = y.len }

pub loop-a-preserved : goal.loop-a-preserved
loop-a-preserved c =
    let i = c.loop-a.invariant in
    let n = c.args.weights.now.degree in
    let v = subst (λ (n : ℕ). AreCipherValues n c.args.cipher.now c.in_ok-turned.turned) c.tables.ensures c.in_ok-turned.ensures in
    let inside : c.loop-a.a < length c.loop-a.sums = omega (arith, c.loop-a-test.true, i.added.count) in
    record {
      added = more_reached (λ a x y. AddsDiagonal c.args.weights.now a c.args.k c.args.i c.args.cipher.now x y) c.loop-a.a c.args.sums.now c.loop-a.sums i.added c.index-sums-a.result c.add_diagonal.new.sum (omega (arith, inside, i.added.count))
          (c.in_ok-add_diagonal.ensures.adds c.args.cipher.now v);
      degrees = All-set (λ (s : CipherSums). s.degree ≡ n) c.loop-a.sums c.loop-a.a c.add_diagonal.new.sum (c.add_diagonal.ensures.degree ∙ i.degrees c.loop-a.a c.index-sums-a.result inside) i.degrees;
      room = c.add_diagonal.ensures.room_degree;
    }

pub returns-in_err-add_diagonal-clause-degrees : goal.returns-in_err-add_diagonal-clause-degrees
returns-in_err-add_diagonal-clause-degrees c =
    let i = c.loop-a.invariant in
    let inside : c.loop-a.a < length c.loop-a.sums = omega (arith, c.loop-a-test.true, i.added.count) in
    All-set (λ (s : CipherSums). s.degree ≡ c.args.weights.now.degree) c.loop-a.sums c.loop-a.a c.add_diagonal.new.sum (c.add_diagonal.ensures.degree ∙ i.degrees c.loop-a.a c.index-sums-a.result inside) i.degrees

pub returns-clause-adds : goal.returns-clause-adds
returns-clause-adds c = let i = c.loop-a.invariant in record { count = i.added.count; each = λ a u. i.added.first a (omega arith) u }
