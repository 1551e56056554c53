use Rattle.std.proofs.Common.{length, ◌≡◌, ◌∙◌, ◌<◌, ◌+◌, ◌*◌, ◌/◌, ◌%◌, ◌^◌, sym, ap, subst, ℕ, arith}
use Rattle.co_switch.specs.Keys.{expansion_element}
use Rattle.co_switch.proofs.Elements.{half_of, expansion_element-odd, expansion_element-lt}
use Rattle.co_wire.proofs.Keyed.{two_at_least, part-room, key-even, one-key}
use Rattle.co_wire.proofs.key_bodies.read_expansions.Goals as goal

pub overflow_shr-n : goal.overflow_shr-n
overflow_shr-n c = let h = half_of c.args.degree c.requires.known in omega (arith, c.loop-j-test.true, c.requires.few, h.log, h.few)

pub read_key-requires-clause-odd : goal.read_key-requires-clause-odd
read_key-requires-clause-odd c =
    let h = half_of c.args.degree c.requires.known in
    let low : c.loop-j.j < h.exponent + 1 = omega (arith, c.loop-j-test.true, c.requires.few, h.log) in
    ap (λ (m : ℕ). (m / 2 ^ c.loop-j.j + 1) % 2) c.get-n.ensures.value ∙ expansion_element-odd c.args.degree c.loop-j.j h low

pub read_key-requires-clause-within : goal.read_key-requires-clause-within
read_key-requires-clause-within c =
    subst (λ (m : ℕ). m / 2 ^ c.loop-j.j + 1 < 2 * c.args.degree) (sym c.get-n.ensures.value) (expansion_element-lt c.args.degree c.loop-j.j (two_at_least c.args.degree c.requires.known))

pub loop-j-preserved : goal.loop-j-preserved
loop-j-preserved c =
    let n = c.args.degree in
    let j = c.loop-j.j in
    let next : c.loop-j.at + 24 * c.get-n.result ≡ c.loop-j.at + 24 * n = omega (arith, c.get-n.ensures.value) in
    one-key n (expansion_element n) c.args.from j c.loop-j.at (c.loop-j.at + 24 * c.get-n.result) c.loop-j.keys.items c.push.new.self.items c.in_ok-key.key c.args.body.now
    c.loop-j.invariant next c.in-Ok.ensures.items (c.in_ok-key.ensures.element ∙ ap (λ (m : ℕ). m / 2 ^ j + 1) c.get-n.ensures.value)
    c.in_ok-key.ensures.degree c.in_ok-key.ensures.key c.in_ok-key.ensures.read.0 c.in_ok-key.ensures.read.1

pub read_key-requires-clause-room : goal.read_key-requires-clause-room
read_key-requires-clause-room c =
    part-room (24 * c.args.degree) c.loop-j.j c.loop-j.at c.args.count c.args.from (length c.args.body.now) c.loop-j.invariant.at_is c.loop-j-test.true c.requires.whole

pub read_key-requires-clause-even : goal.read_key-requires-clause-even
read_key-requires-clause-even c = key-even c.args.degree c.args.from c.loop-j.j c.loop-j.at c.loop-j.invariant.at_is c.requires.even
