use Rattle.std.proofs.Common.{pos, refl, sym, subst}
use Rattle.co_math.specs.Coefficients.{IsDegree}
use Rattle.co_bfv.specs.Ciphertexts.{Ciphertext, MeansWithin}
use Rattle.co_bfv.proofs.Combined.{parts_IsCiphertext, zero_are, zero_means}
use Rattle.co_bfv.proofs.ciphers.Cipher.zero.Goals as goal

pub invariant_of-result : goal.invariant_of-result
invariant_of-result c =
    parts_IsCiphertext c.args.degree c.args.degree (λ _. pos 0) (λ _. pos 0) (record { c0 = c.in_ok-zero.field-0; c1 = c.in_ok-zero-2.field-0 })
    (subst IsDegree c.get-n.ensures.value c.get-n.ensures.valid) refl c.in_ok-zero.ensures c.in_ok-zero-2.ensures

pub returns-clause-value : goal.returns-clause-value
returns-clause-value c = zero_are c.args.degree (record { c0 = c.in_ok-zero.field-0; c1 = c.in_ok-zero-2.field-0 }) c.in_ok-zero.ensures c.in_ok-zero-2.ensures

pub returns-clause-meaning : goal.returns-clause-meaning
returns-clause-meaning c s =
    subst (λ (v : Ciphertext). MeansWithin s v (λ _. pos 0) 0) (sym (returns-clause-value c)) (zero_means c.args.degree s (subst IsDegree c.get-n.ensures.value c.get-n.ensures.valid))
