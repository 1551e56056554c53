use Rattle.std.proofs.Common.{◌≡◌, ◌*◌, sym, subst, length}
use Rattle.co_math.specs.Parameters.{plain_half}
use Rattle.co_math.specs.Polynomials.{product}
use Rattle.co_math.specs.Coefficients.{coefficients}
use Rattle.co_rns.specs.Residue_pairs.{centred_coefficients}
use Rattle.co_bfv.specs.Ciphertexts.{Ciphertext, IsCiphertext, ciphertext_degree, MeansWithin, plain_product}
use Rattle.co_bfv.proofs.Combined.{parts_IsCiphertext, product_are, product_means}
use Rattle.co_bfv.proofs.ciphers.Cipher.mul_plain.Goals as goal

pub invariant_of-result : goal.invariant_of-result
invariant_of-result c =
    let x = c.self.inside in
    let p = centred_coefficients c.args.plain.now.coeffs in
    parts_IsCiphertext (length x.c0) (length x.c1) (product (length x.c0) (coefficients x.c0) p) (product (length x.c1) (coefficients x.c1) p)
    (record { c0 = c.in_ok-mul_plain.field-0; c1 = c.in_ok-mul_plain-2.field-0 }) c.self.invariant.c0.degree c.self.invariant.one_degree c.in_ok-mul_plain.ensures c.in_ok-mul_plain-2.ensures

pub returns-clause-value : goal.returns-clause-value
returns-clause-value c =
    let x : Ciphertext = record { c0 = c.self.inside.c0; c1 = c.self.inside.c1 } in
    let z : Ciphertext = record { c0 = c.in_ok-mul_plain.field-0; c1 = c.in_ok-mul_plain-2.field-0 } in
    subst (λ (v : Ciphertext). z ≡ plain_product v c.args.plain.now.coeffs) c.self.view_is
    (product_are x c.args.plain.now.coeffs z c.self.invariant.one_degree c.in_ok-mul_plain.ensures c.in_ok-mul_plain-2.ensures)

pub returns-clause-meaning : goal.returns-clause-meaning
returns-clause-meaning c s m b w f =
    let n = ciphertext_degree c.args.self.now in
    subst (λ (v : Ciphertext). MeansWithin s v (product n (centred_coefficients c.args.plain.now.coeffs) m) (n * plain_half * b)) (sym (returns-clause-value c))
    (product_means c.args.self.now c.args.plain.now.coeffs (subst IsCiphertext c.self.view_is c.self.invariant) c.requires.one_degree s m b w f)
