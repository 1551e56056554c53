use Rattle.std.proofs.Common.{◌+◌, ◌*◌, ℕ, length, refl, sym, subst, arith}
use Rattle.co_wire.proofs.Ciphered.{AreRead, one-read}
use Rattle.co_wire.proofs.Keyed.{part-room, even-at}
use Rattle.co_wire.proofs.bodies.read_each.Goals as goal

pub loop-i-preserved : goal.loop-i-preserved
loop-i-preserved c =
    let n = c.args.degree in
    let i = c.loop-i.i in
    let at = c.loop-i.at in
    subst (λ (m : ℕ). AreRead n c.args.body.now (i + 1) (at + 4 * m) c.push.new.self.items) (sym c.get.ensures.value)
    (one-read n c.args.body.now i at c.loop-i.ciphers.items c.push.new.self.items c.in_ok-cipher.cipher c.loop-i.invariant c.in-Ok.ensures.items
    c.in_ok-cipher.ensures.cipher c.in_ok-cipher.ensures.degree c.in_ok-cipher.ensures.read.0 c.in_ok-cipher.ensures.read.1)

pub read_cipher-requires-clause-room : goal.read_cipher-requires-clause-room
read_cipher-requires-clause-room c =
    part-room (4 * c.args.degree) c.loop-i.i c.loop-i.at c.args.count 0 (length c.args.body.now) (omega (arith, c.loop-i.invariant.at_is)) c.loop-i-test.true (omega (arith, c.requires))

pub read_cipher-requires-clause-even : goal.read_cipher-requires-clause-even
read_cipher-requires-clause-even c = even-at c.args.degree 0 c.loop-i.i c.loop-i.at (omega (arith, c.loop-i.invariant.at_is)) refl
