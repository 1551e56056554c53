use Rattle.std.proofs.Common.{ap, arith}
use Rattle.co_bfv.specs.Ciphertexts.{Ciphertext, ciphertext_degree}
use Rattle.co_bfv.proofs.Combined.{difference-degree}
use Rattle.co_pir.proofs.expansion.odd_part.Goals as goal

pub shift-requires : goal.shift-requires
shift-requires c =
    omega (
      arith,
      ap (λ (x : Ciphertext). ciphertext_degree x) c.sub_in.ensures.value,
      difference-degree c.in_ok-difference.difference c.args.switched.now,
      ap (λ (x : Ciphertext). ciphertext_degree x) c.in_ok-difference.ensures,
    )
