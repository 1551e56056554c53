use Rattle.std.proofs.Common.{◌≡◌, ℕ, List, arith, subst, sym, ap, ◌∙◌, map, take}
use Rattle.std.proofs.lemmas.List.{length-map, take_all}
use Rattle.co_math.specs.Coefficients.{IsDegree}
use Rattle.co_ring.specs.declared.moduli.Modulus.TheVariants.{Plain}
use Rattle.co_ring.specs.Polynomials.{IsPolynomial}
use Rattle.co_bfv.specs.Encryptions.{opened}
use Rattle.co_bfv.proofs.Encrypted.{opened_below}
use Rattle.co_bfv.proofs.encryption.open.Goals as goal

pub from_vec-requires : goal.from_vec-requires
from_vec-requires c =
    let xs = c.args.phase.now in
    let all : take c.loop-k.k xs ≡ xs = take_all c.loop-k.k xs (omega (arith, c.degree-k-end.ensures.value)) in
    let is : c.loop-k.message.items ≡ map opened xs = c.loop-k.invariant ∙ ap (map opened) all in
    subst (IsPolynomial Plain) (sym is) (record {
      degree = subst IsDegree (sym (length-map xs opened)) c.degree.ensures.whole.degree;
      below = opened_below xs;
    })

pub returns : goal.returns
returns c =
    let xs = c.args.phase.now in
    let all : take c.loop-k.k xs ≡ xs = take_all c.loop-k.k xs (omega (arith, c.degree-k-end.ensures.value)) in
    c.from_vec.ensures ∙ ap (λ (v : List ℕ). record { modulus = Plain; coeffs = v }) (c.loop-k.invariant ∙ ap (map opened) all)
