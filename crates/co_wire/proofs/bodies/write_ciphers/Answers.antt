use Rattle.co_wire.specs.Bodies.{cipher_bytes}
use Rattle.co_wire.proofs.Writes.{one_more}
use Rattle.co_wire.proofs.bodies.write_ciphers.Goals as goal

pub loop-cipher-preserved : goal.loop-cipher-preserved
loop-cipher-preserved c =
    one_more cipher_bytes c.in_ok-out.out.items c.loop-cipher.out.items c.put_cipher.new.out.items c.args.ciphers.now c.loop-cipher.cipher-index c.cipher-item.result
    c.loop-cipher-test.true c.cipher-item.is c.loop-cipher.invariant c.in_ok-put_cipher.ensures
