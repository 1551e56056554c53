use Rattle.std.proofs.Common.{arith}
use Rattle.co_ring.proofs.Factors.{no_powers, more_powers, first_power, next_power}
use Rattle.co_ring.proofs.tables.powers.Goals as goal

pub loop-k-init : goal.loop-k-init
loop-k-init c = record {
  powers = no_powers c.args.m c.args.psi (λ k. k) _ c.in_ok-all.ensures.items;
  next = first_power c.args.m c.args.psi c.requires;
}

pub loop-k-preserved : goal.loop-k-preserved
loop-k-preserved c = record {
  powers = more_powers c.args.m c.args.psi (λ k. k) c.loop-k.k c.loop-k.all.items _ c.loop-k.next c.loop-k.invariant.powers c.in_ok-push.ensures.items c.loop-k.invariant.next;
  next = next_power c.args.m c.args.psi c.loop-k.k c.loop-k.next c.multiply-next.result (omega (arith, c.requires)) c.loop-k.invariant.next c.multiply-next.ensures;
}
