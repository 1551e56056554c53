use Rattle.std.proofs.Common.{ℕ, List, ◌∙◌, ap, sym, subst, length}
use Rattle.co_math.specs.Parameters.{q, plain_modulus}
use Rattle.co_math.specs.Polynomials.{plus, product}
use Rattle.co_math.specs.Coefficients.{coefficients, AreResidues, residues_of, signed_coefficients}
use Rattle.co_ring.specs.declared.moduli.Modulus.TheVariants.{Plain}
use Rattle.co_ring.specs.Polynomials.{Polynomial}
use Rattle.co_bfv.specs.Encryptions.{decrypted}
use Rattle.co_bfv.proofs.Encrypted.{phase_is, decrypted_are}
use Rattle.co_bfv.proofs.encryption.decrypt.Goals as goal

plain : List ℕ → Polynomial
plain v = record { modulus = Plain; coeffs = v }

pub returns-clause-value : goal.returns-clause-value
unfolding plain
returns-clause-value c =
    let secret = c.args.secret.now in
    let cipher = c.args.cipher.now in
    let product_now = c.in_ok-phase.phase in
    let phase_now = c.add_in.new.self in
    c.in_ok-open.ensures
    ∙ ap plain (phase_is secret cipher product_now phase_now c.degree.ensures.ciphertext c.requires
    (c.in_ok-phase.ensures.value ∙ ap (λ (v : List ℕ). residues_of q (length secret) (product (length secret) (coefficients v) (signed_coefficients secret))) c.c1.ensures)
    (subst (λ (v : List ℕ). AreResidues q (length product_now) (plus (coefficients product_now) (coefficients v)) phase_now) c.c0.ensures c.add_in.ensures))

pub returns-clause-meaning : goal.returns-clause-meaning
returns-clause-meaning c m b f l =
    let secret = c.args.secret.now in
    let cipher = c.args.cipher.now in
    subst (AreResidues plain_modulus (length secret) m) (sym (ap (λ (p : Polynomial). p.coeffs) (returns-clause-value c)))
    (subst (λ (k : ℕ). AreResidues plain_modulus k m (decrypted secret cipher)) c.requires (decrypted_are secret cipher m b f l))
