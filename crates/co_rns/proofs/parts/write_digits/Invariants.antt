use Rattle.std.proofs.Common.{◌≡◌, ◌/◌, ◌%◌, ◌^◌, get_or, length}
use Rattle.co_ring.specs.declared.moduli.Modulus.TheVariants.{First, Second}
use Rattle.co_rns.specs.Residue_pairs.{all_composed}
use Rattle.co_math.proofs.Done.{AreFilled}
use Rattle.co_rns.proofs.parts.write_digits.Given as goal
use Rattle.co_math.specs.Parameters.{digit_base}

abbrev pub invariant-loop-k : goal.invariant-loop-k
invariant-loop-k l = record {
  first_modulus : l.into_first.modulus ≡ First;
  second_modulus : l.into_second.modulus ≡ Second;
  first_digits : AreFilled (length l.first.coeffs) l.k (λ k. get_or (all_composed l.first.coeffs l.second.coeffs) k 0 / digit_base ^ l.index % digit_base) l.into_first.coeffs;
  second_digits : AreFilled (length l.first.coeffs) l.k (λ k. get_or (all_composed l.first.coeffs l.second.coeffs) k 0 / digit_base ^ l.index % digit_base) l.into_second.coeffs;
}
