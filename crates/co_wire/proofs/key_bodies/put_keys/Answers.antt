use Rattle.co_wire.specs.Bodies.{key_bytes}
use Rattle.co_wire.proofs.Writes.{one_more}
use Rattle.co_wire.proofs.key_bodies.put_keys.Goals as goal

pub loop-key-preserved : goal.loop-key-preserved
loop-key-preserved c =
    one_more key_bytes c.args.out.now.items c.loop-key.out.items c.put_key.new.out.items c.args.keys.now c.loop-key.key-index c.key-item.result
    c.loop-key-test.true c.key-item.is c.loop-key.invariant c.in_ok-put_key.ensures
