use Rattle.std.proofs.Common.{◌/◌, ◌%◌, ap}
use Rattle.co_rns.proofs.Digits.{power_of_base}
use Rattle.co_rns.proofs.parts.digit_of.Goals as goal
use Rattle.co_math.specs.Parameters.{digit_base}

pub returns-clause-value : goal.returns-clause-value
returns-clause-value c = ap (λ k. c.args.coefficient / k % digit_base) (power_of_base c.args.index)
