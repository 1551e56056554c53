use Rattle.std.proofs.lemmas.Result.{IfOk-weaker}
use Rattle.co_ring.proofs.Factors.{whole_powers}
use Rattle.co_ring.proofs.tables.factors.Goals as goal

pub returns-clause-roots : goal.returns-clause-roots
returns-clause-roots c =
    IfOk-weaker c.roots_and_inverses.result _ _
    (λ pair h. h c.args.m c.args.psi (whole_powers c.args.m c.args.psi _ c.in_ok-powers.powers.items c.deref.result.now c.in_ok-powers.ensures c.deref.ensures.value))
    c.roots_and_inverses.ensures.roots

pub returns-clause-inverses : goal.returns-clause-inverses
returns-clause-inverses c =
    IfOk-weaker c.roots_and_inverses.result _ _
    (λ pair h. h c.args.m c.args.psi (whole_powers c.args.m c.args.psi _ c.in_ok-powers.powers.items c.deref.result.now c.in_ok-powers.ensures c.deref.ensures.value))
    c.roots_and_inverses.ensures.inverses
