-- A sum with zeros is the other summand.
use Rattle.std.proofs.Common.{sym, ap, ◌∙◌}
use Rattle.co_bfv.specs.Ciphertexts.{Ciphertext, ciphertext_degree, ciphertext_sum, zero_ciphertext}
use Rattle.co_bfv.proofs.Copies.{zero-degree, zero-sum}
use Rattle.co_bfv.proofs.ciphers.Cipher.copy.Goals as goal

pub add_in-requires : goal.add_in-requires
add_in-requires c = sym (ap ciphertext_degree c.in_ok-copy.ensures.value ∙ zero-degree c.of.result ∙ c.of.ensures ∙ c.degree.ensures.value)

pub returns : goal.returns
returns c =
    c.add_in.ensures.value ∙ ap (λ (z : Ciphertext). ciphertext_sum z c.args.self.now) (c.in_ok-copy.ensures.value ∙ ap zero_ciphertext (c.of.ensures ∙ c.degree.ensures.value))
    ∙ zero-sum (ciphertext_degree c.args.self.now) c.args.self.now c.degree.ensures.ciphertext (λ i. ciphertext_degree c.args.self.now)
