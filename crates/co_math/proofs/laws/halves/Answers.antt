use Rattle.std.proofs.Common.{arith}
use Rattle.co_math.proofs.Roots.{minus_residue, three_q_one, three_q_two, three_t}
use Rattle.co_math.proofs.laws.halves.Goals as goal
use Rattle.co_math.specs.Parameters.{first_modulus, plain_modulus, second_modulus}

pub returns-clause-first : goal.returns-clause-first
returns-clause-first c = minus_residue first_modulus _ (omega arith) three_q_one

pub returns-clause-second : goal.returns-clause-second
returns-clause-second c = minus_residue second_modulus _ (omega arith) three_q_two

pub returns-clause-plain : goal.returns-clause-plain
returns-clause-plain c = minus_residue plain_modulus _ (omega arith) three_t
