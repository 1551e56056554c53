use Rattle.std.proofs.Common.{◌≡◌, length, ◌∙◌, ◌+◌, ◌*◌, ℕ, refl, sym, ap, subst, arith}
use Rattle.co_wire.specs.Bodies.{polynomial_bytes}
use Rattle.co_wire.specs.Parts.{AreReadPairs}
use Rattle.co_wire.proofs.Fronts.{spells-to}
use Rattle.co_wire.proofs.Keyed.{no-pairs, one-pair, pair-room, even-at}
use Rattle.co_wire.proofs.key_bodies.read_pairs.Goals as goal

pub loop-index-init : goal.loop-index-init
loop-index-init c = no-pairs c.args.degree c.args.from c.args.k0.now.items c.args.k1.now.items c.args.body.now c.requires.k0 c.requires.k1 c.requires.before

pub loop-index-preserved : goal.loop-index-preserved
loop-index-preserved c =
    let n = c.args.degree in
    let at = c.loop-index.at in
    let half : 2 * c.get.result ≡ 2 * n = omega (arith, c.get.ensures.value) in
    let mid : at + 2 * c.get.result ≡ at + 2 * n = omega (arith, half) in
    let next : at + 2 * (2 * c.get.result) ≡ at + 2 * c.get.result + 2 * n = omega (arith, half) in
    one-pair n c.args.from c.loop-index.index at (at + 2 * c.get.result) (at + 2 * c.get.result + 2 * n) (at + 2 * (2 * c.get.result))
    c.loop-index.k0.items c.loop-index.k1.items c.push.new.self.items c.push-in-loop-index.new.self.items c.in_ok-first.first c.in_ok-second.second c.args.body.now
    c.loop-index.invariant mid refl next c.in-Ok.ensures.items c.in-Ok-push.ensures.items
    c.in_ok-first.ensures.degree c.in_ok-second.ensures.degree c.in_ok-first.ensures.reduced c.in_ok-second.ensures.reduced
    (spells-to at (at + 2 * n) (at + 2 * c.get.result) (polynomial_bytes c.in_ok-first.first) c.args.body.now (sym mid) c.in_ok-first.ensures.read.0)
    c.in_ok-second.ensures.read.0 c.in_ok-second.ensures.read.1

pub returns-clause-pairs : goal.returns-clause-pairs
returns-clause-pairs c =
    let n = c.args.degree in
    let from = c.args.from in
    let l = c.loop-index in
    let all : l.index ≡ 6 = omega (arith, c.loop-index-test.false, l.auto.index-end) in
    let end : l.at ≡ from + 24 * n = l.invariant.at_is ∙ ap (λ (k : ℕ). from + k * (4 * n)) all ∙ omega arith in
    subst (λ (i : ℕ). AreReadPairs n from i (from + 24 * n) l.k0.items l.k1.items c.args.body.now) all
    (subst (λ (at : ℕ). AreReadPairs n from l.index at l.k0.items l.k1.items c.args.body.now) end l.invariant)

pub read_polynomial-requires-clause-room : goal.read_polynomial-requires-clause-room
read_polynomial-requires-clause-room c = omega (arith, pair-room c.args.degree c.args.from c.loop-index.index c.loop-index.at (length c.args.body.now) c.loop-index.invariant.at_is c.loop-index-test.true c.requires.room)

pub read_polynomial-requires-clause-even : goal.read_polynomial-requires-clause-even
read_polynomial-requires-clause-even c = even-at c.args.degree c.args.from c.loop-index.index c.loop-index.at c.loop-index.invariant.at_is c.requires.even

pub read_polynomial-requires-in-loop-index-clause-room : goal.read_polynomial-requires-in-loop-index-clause-room
read_polynomial-requires-in-loop-index-clause-room c = omega (arith, c.get.ensures.value, pair-room c.args.degree c.args.from c.loop-index.index c.loop-index.at (length c.args.body.now) c.loop-index.invariant.at_is c.loop-index-test.true c.requires.room)

pub read_polynomial-requires-in-loop-index-clause-even : goal.read_polynomial-requires-in-loop-index-clause-even
read_polynomial-requires-in-loop-index-clause-even c = omega (arith, even-at c.args.degree c.args.from c.loop-index.index c.loop-index.at c.loop-index.invariant.at_is c.requires.even)
