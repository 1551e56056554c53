use Rattle.std.proofs.Common.{◌≡◌, ℕ, ◌<◌, ◌/◌, ◌%◌, ◌^◌, length, get_or}
use Rattle.co_math.specs.Parameters.{digit_base}
use Rattle.co_rns.proofs.parts.digits_of.Given as goal

abbrev pub invariant-loop-k : goal.invariant-loop-k
invariant-loop-k l = record {
  len : length l.into ≡ length l.initial.into;
  done : (j : ℕ) → j < l.k → get_or l.into j 0 ≡ get_or l.coeffs j 0 / digit_base ^ l.index % digit_base;
}
