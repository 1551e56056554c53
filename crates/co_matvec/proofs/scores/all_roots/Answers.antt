-- The roots of one block after another.
use Rattle.std.proofs.Common.{sym, subst, arith, List, length}
use Rattle.co_bfv.specs.Ciphertexts.{Ciphertext}
use Rattle.co_matvec.proofs.Roots.{AreGathered, none_gathered, more_gathered, gathered-risen, gathered-ended, all_gathered, all_stepped, all_risen}
use Rattle.co_matvec.proofs.scores.all_roots.Goals as goal

pub loop-k-init : goal.loop-k-init
loop-k-init g c =
    subst (λ (xs : List Ciphertext). AreGathered c.args.keys.now c.args.query.now 0 xs c.args.steps.now c.args.steps.now) (sym c.new-roots.ensures.items)
    (none_gathered c.args.keys.now c.args.query.now c.args.steps.now)

pub returns-in_err-block-clause-rise : goal.returns-in_err-block-clause-rise
returns-in_err-block-clause-rise g c =
    gathered-risen c.args.keys.now c.args.query.now c.loop-k.k c.loop-k.roots.items c.args.steps.now c.loop-k.steps c.loop-k.invariant (length c.args.query.now) c.crown.new.steps (omega arith) c.in_err-block.ensures.rise

pub returns-in_err-append-clause-rise : goal.returns-in_err-append-clause-rise
returns-in_err-append-clause-rise g c =
    gathered-ended c.args.keys.now c.args.query.now c.loop-k.k c.loop-k.roots.items c.args.steps.now c.loop-k.steps c.loop-k.invariant (length c.args.query.now) c.crown.new.steps (omega arith) c.in_ok-block.ensures.steps

pub loop-k-preserved : goal.loop-k-preserved
loop-k-preserved g c =
    more_gathered c.args.keys.now c.args.query.now c.loop-k.k c.loop-k.roots.items c.args.steps.now c.loop-k.steps c.loop-k.invariant c.index-query-k.result c.in_ok-block.block.items c.append.new.self.items c.crown.new.steps
    (omega arith) c.index-query-k.is c.in_ok-block.ensures.value c.in_ok-append.ensures.items c.in_ok-block.ensures.steps

pub returns-clause-roots : goal.returns-clause-roots
returns-clause-roots g c = all_gathered c.args.keys.now c.args.query.now c.loop-k.k c.loop-k.roots.items c.args.steps.now c.loop-k.steps c.loop-k.invariant (length c.args.query.now) (omega arith)

pub returns-clause-steps : goal.returns-clause-steps
returns-clause-steps g c = all_stepped c.args.keys.now c.args.query.now c.loop-k.k c.loop-k.roots.items c.args.steps.now c.loop-k.steps c.loop-k.invariant (length c.args.query.now) (omega arith)

pub returns-clause-rise : goal.returns-clause-rise
returns-clause-rise g c = all_risen c.args.keys.now c.args.query.now c.loop-k.k c.loop-k.roots.items c.args.steps.now c.loop-k.steps c.loop-k.invariant (length c.args.query.now) (omega arith)
