use Rattle.std.proofs.Common.{◌≤◌, ◌^◌, arith}
use Rattle.co_math.proofs.Logarithms.{logarithm_unique, first_logarithm}
use Rattle.co_math.proofs.sizes.log2_up.Goals as goal

pub returns-then-n-level-clause-least : goal.returns-then-n-level-clause-least
returns-then-n-level-clause-least c =
    let reaches : c.args.n ≤ 2 ^ c.loop-level.level = grind arith in
    first_logarithm c.args.n c.loop-level.level c.loop-level.invariant reaches

pub returns-then-n-level-clause-value : goal.returns-then-n-level-clause-value
returns-then-n-level-clause-value c = logarithm_unique c.args.n c.loop-level.level (returns-then-n-level-clause-least c)

pub returns-then-n-level-clause-few : goal.returns-then-n-level-clause-few
returns-then-n-level-clause-few c h = let l = returns-then-n-level-clause-least c in l.least 16 h

pub returns-clause-least : goal.returns-clause-least
returns-clause-least c = first_logarithm c.args.n 32 (λ k l. c.loop-level.invariant k (omega arith)) (omega arith)

pub returns-clause-value : goal.returns-clause-value
returns-clause-value c = logarithm_unique c.args.n 32 (returns-clause-least c)

pub returns-clause-few : goal.returns-clause-few
returns-clause-few c h = let l = returns-clause-least c in l.least 16 h
