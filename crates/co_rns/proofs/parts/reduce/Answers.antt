use Rattle.std.proofs.Common.{ℕ, List, ◌+◌, ◌<◌, ◌%◌, ◌∙◌, length, get_or, arith, refl, sym, ap, subst}
use Rattle.std.proofs.lemmas.Nat.{mod_below}
use Rattle.co_math.specs.Coefficients.{IsDegree}
use Rattle.co_ring.specs.Moduli.{value_of}
use Rattle.co_ring.specs.Polynomials.{Polynomial}
use Rattle.co_rns.specs.Residue_pairs.{AreResiduesOf}
use Rattle.co_ring.proofs.Keeping.{value-positive}
use Rattle.co_rns.proofs.Parting.{AreNumbers, more_numbers, numbers_IsPolynomial}
use Rattle.co_rns.proofs.parts.reduce.Goals as goal

pub loop-k-preserved : goal.loop-k-preserved
loop-k-preserved c =
    let f : ℕ → ℕ = λ j. get_or c.args.coeffs.now j 0 % c.value-m.result in
    subst (λ (xs : List ℕ). AreNumbers f (c.loop-k.k + 1) xs) (sym {A = List ℕ} c.in_ok-push.ensures.items) (more_numbers f c.loop-k.k _ c.loop-k.residues.items c.loop-k.invariant refl)

pub from_vec-requires : goal.from_vec-requires
from_vec-requires c =
    let cs = c.args.coeffs.now in
    let degree : IsDegree (length cs) = subst IsDegree (c.get-n.ensures.value ∙ sym c.requires) c.get-n.ensures.valid in
    numbers_IsPolynomial c.args.modulus (λ j. get_or cs j 0 % c.value-m.result) c.loop-k.k (length cs) c.loop-k.residues.items degree (omega arith)
    (λ j. subst (λ (m : ℕ). get_or cs j 0 % m < value_of c.args.modulus) (sym c.value-m.ensures.value) (mod_below (get_or cs j 0) (value_of c.args.modulus) (value-positive c.args.modulus))) c.loop-k.invariant

pub returns-clause-coeffs : goal.returns-clause-coeffs
returns-clause-coeffs c =
    let cs = c.args.coeffs.now in
    subst (λ (p : Polynomial). AreResiduesOf (value_of c.args.modulus) cs p.coeffs) (sym c.from_vec.ensures) (record {
      len = c.loop-k.invariant.len ∙ omega arith;
      each = λ j u. c.loop-k.invariant.each j (omega (arith, u)) ∙ ap (λ m. get_or cs j 0 % m) c.value-m.ensures.value;
    })
