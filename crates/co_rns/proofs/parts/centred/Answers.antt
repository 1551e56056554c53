use Rattle.std.proofs.Common.{ℕ, List, ◌+◌, ◌<◌, ◌∙◌, length, get_or, arith, refl, sym, ap, subst, pos}
use Rattle.co_math.specs.Residues.{residue}
use Rattle.co_math.specs.Meanings.{centred}
use Rattle.co_math.specs.Parameters.{plain_modulus}
use Rattle.co_math.proofs.Residues.{residue-lt}
use Rattle.co_ring.specs.Moduli.{value_of}
use Rattle.co_ring.specs.Polynomials.{Polynomial, IsPoly}
use Rattle.co_rns.specs.Residue_pairs.{centred_coefficients}
use Rattle.co_ring.proofs.Keeping.{value-positive}
use Rattle.co_rns.proofs.Centring.{centred_numbers}
use Rattle.co_rns.proofs.Parting.{AreNumbers, more_numbers, numbers_IsPolynomial}
use Rattle.co_rns.proofs.parts.centred.Goals as goal

pub loop-k-preserved : goal.loop-k-preserved
loop-k-preserved c =
    let f : ℕ → ℕ = λ j. residue c.value-m.result (centred plain_modulus (pos (get_or c.args.plain.now.coeffs j 0))) in
    subst (λ (xs : List ℕ). AreNumbers f (c.loop-k.k + 1) xs) (sym {A = List ℕ} c.in_ok-push.ensures.items)
    (more_numbers f c.loop-k.k c.centre.result c.loop-k.residues.items c.loop-k.invariant (c.centre.ensures ∙ ap (λ v. residue c.value-m.result (centred plain_modulus (pos v))) c.coeff.ensures.value))

pub from_vec-requires : goal.from_vec-requires
from_vec-requires c =
    let ps = c.args.plain.now.coeffs in
    let v = value_of c.args.modulus in
    numbers_IsPolynomial c.args.modulus (λ j. residue c.value-m.result (centred plain_modulus (pos (get_or ps j 0)))) c.loop-k.k (length ps) c.loop-k.residues.items c.degree-n.ensures.valid.degree (omega (arith, c.degree-n.ensures.value))
    (λ j. subst (λ (m : ℕ). residue m (centred plain_modulus (pos (get_or ps j 0))) < v) (sym c.value-m.ensures.value) (residue-lt v (centred plain_modulus (pos (get_or ps j 0))) (value-positive c.args.modulus))) c.loop-k.invariant

pub returns : goal.returns
returns c =
    let ps = c.args.plain.now.coeffs in
    subst (λ (p : Polynomial). IsPoly c.args.modulus (length ps) (centred_coefficients ps) p) (sym c.from_vec.ensures) (record {
      one_modulus = refl;
      coeffs = centred_numbers (value_of c.args.modulus) c.value-m.result (length ps) c.loop-k.k ps c.loop-k.residues.items c.value-m.ensures.value c.loop-k.invariant (omega (arith, c.degree-n.ensures.value)) refl;
    })
