use Rattle.std.proofs.Common.{◌≡◌, ◌<◌, rules, arith, ◌∙◌, sym, ap, subst, map, take, pos}
use Rattle.std.proofs.lemmas.List.{take_all}
use Rattle.co_math.specs.Residues.{residue}
use Rattle.co_math.specs.Coefficients.{AreResidues, IsDegree, signed_coefficients}
use Rattle.co_math.proofs.Done.{residues_below}
use Rattle.co_ring.specs.Moduli.{value_of}
use Rattle.co_ring.specs.Polynomials.{Polynomial, IsPolynomial}
use Rattle.co_bfv.proofs.Signed_lists.{signed_residues}
use Rattle.co_bfv.proofs.Mapped.{one_more_mapped}
use Rattle.co_bfv.proofs.signed.reduce_all.Goals as goal

pub from_vec-requires : goal.from_vec-requires
from_vec-requires c =
    let m = value_of c.args.modulus in
    let xs = c.args.values.now in
    let all : take c.loop-k.k xs ≡ xs = take_all c.loop-k.k xs (omega arith) in
    let is : c.loop-k.coeffs.items ≡ map (residue m) xs = c.loop-k.invariant ∙ ap (map (residue m)) all in
    let some : 0 < m = omega (arith, c.value-m.ensures.value, c.value-m.ensures.least) in
    let r : AreResidues m c.args.degree (signed_coefficients xs) (map (residue m) xs) = signed_residues m c.args.degree xs c.requires in
    subst (IsPolynomial c.args.modulus) (sym is) (record {
      degree = subst IsDegree (sym r.len) (subst IsDegree c.get.ensures.value c.get.ensures.valid);
      below = residues_below m c.args.degree (signed_coefficients xs) (map (residue m) xs) some r;
    })

pub returns : goal.returns
returns c =
    let m = value_of c.args.modulus in
    let xs = c.args.values.now in
    let all : take c.loop-k.k xs ≡ xs = take_all c.loop-k.k xs (omega arith) in
    let is : c.loop-k.coeffs.items ≡ map (residue m) xs = c.loop-k.invariant ∙ ap (map (residue m)) all in
    record {
      one_modulus = ap (λ (p : Polynomial). p.modulus) c.from_vec.ensures;
      coeffs = subst (AreResidues m c.args.degree (signed_coefficients xs)) (sym (ap (λ (p : Polynomial). p.coeffs) c.from_vec.ensures ∙ is)) (signed_residues m c.args.degree xs c.requires);
    }

pub loop-k-preserved : goal.loop-k-preserved
loop-k-preserved c =
    let m = value_of c.args.modulus in
    one_more_mapped (residue m) c.args.values.now c.loop-k.coeffs.items c.push.new.self.items c.loop-k.k (pos 0) c.reduce.result c.loop-k.invariant c.loop-k-test.true c.in_ok-push.ensures.items (search rules)
