use Rattle.std.proofs.Common.{refl, length, ◌≡◌, ◌∙◌, ◌+◌, ◌*◌, ◌%◌, ap, ℕ, arith}
use Rattle.co_switch.specs.Keys.{rotation_element}
use Rattle.co_switch.proofs.Elements.{rotation_element-odd, rotation_element-first, rotation_element-next}
use Rattle.co_wire.proofs.Fronts.{range-none}
use Rattle.co_wire.proofs.Keyed.{two_at_least, part-room, key-even, no-keys, one-key}
use Rattle.co_wire.proofs.key_bodies.read_rotations.Goals as goal

pub loop-b-init : goal.loop-b-init
loop-b-init c =
    let n = c.args.degree in
    (no-keys n (rotation_element n) 0 c.args.keys.now.items c.args.body.now c.requires.none (range-none c.args.body.now), rotation_element-first n (two_at_least n c.requires.known))

pub read_key-requires-clause-odd : goal.read_key-requires-clause-odd
read_key-requires-clause-odd c = ap (λ (m : ℕ). m % 2) c.loop-b.invariant.1 ∙ rotation_element-odd c.args.degree c.loop-b.b

pub loop-b-preserved : goal.loop-b-preserved
loop-b-preserved c =
    let n = c.args.degree in
    let b = c.loop-b.b in
    let next : c.loop-b.at + 24 * c.get-n.result ≡ c.loop-b.at + 24 * n = omega (arith, c.get-n.ensures.value) in (
      one-key n (rotation_element n) 0 b c.loop-b.at (c.loop-b.at + 24 * c.get-n.result) c.loop-b.keys.items c.push.new.self.items c.in_ok-key.key c.args.body.now
          c.loop-b.invariant.0 next c.in-Ok.ensures.items (c.in_ok-key.ensures.element ∙ c.loop-b.invariant.1)
          c.in_ok-key.ensures.degree c.in_ok-key.ensures.key c.in_ok-key.ensures.read.0 c.in_ok-key.ensures.read.1,
      rotation_element-next n b c.loop-b.element c.square-element.result (2 * c.get-n.result) c.loop-b.invariant.1 (ap (λ (m : ℕ). 2 * m) c.get-n.ensures.value) c.square-element.ensures,
    )

pub read_key-requires-clause-room : goal.read_key-requires-clause-room
read_key-requires-clause-room c =
    let n = c.args.degree in
    part-room (24 * n) c.loop-b.b c.loop-b.at c.args.count 0 (length c.args.body.now) c.loop-b.invariant.0.at_is c.loop-b-test.true (omega (arith, c.requires.whole))

pub read_key-requires-clause-even : goal.read_key-requires-clause-even
read_key-requires-clause-even c = key-even c.args.degree 0 c.loop-b.b c.loop-b.at c.loop-b.invariant.0.at_is refl
