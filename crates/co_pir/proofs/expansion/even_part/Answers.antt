use Rattle.std.proofs.Common.{◌∙◌, ap, sym}
use Rattle.co_bfv.specs.Ciphertexts.{Ciphertext, ciphertext_degree, ciphertext_sum}
use Rattle.co_pir.proofs.expansion.even_part.Goals as goal

pub add_in-requires : goal.add_in-requires
add_in-requires c = c.requires ∙ ap (λ (x : Ciphertext). ciphertext_degree x) (sym c.in_ok-sum.ensures)

pub returns : goal.returns
returns c = c.add_in.ensures.value ∙ ap (λ (x : Ciphertext). ciphertext_sum x c.args.switched.now) c.in_ok-sum.ensures
