use Rattle.std.proofs.Common.{◌≡◌, ℕ, ◌<◌, sym, subst, ◌∙◌}
use Rattle.co_math.specs.Polynomials.{IsWrapped, product}
use Rattle.co_math.specs.Coefficients.{IsDegree}
use Rattle.co_math.proofs.Places.{coefficients-IsWrapped}
use Rattle.co_math.proofs.Degrees.{degree_positive}
use Rattle.co_ring.specs.Moduli.{value_of}
use Rattle.co_ring.specs.Polynomials.{degree_of, polynomial_of}
use Rattle.co_ring.specs.Spectra.{AreValues}
use Rattle.co_ring.proofs.Multiplied.{multiplied}
use Rattle.co_ring.proofs.polys.multiplied_values.Goals as goal

pub returns : goal.returns
returns c =
    let table = c.args.table.now in
    let a = c.args.a.now in
    let b = c.args.b.now in
    let n = c.degree-degree.result in
    let own : degree_of b ≡ n = c.requires.b_degree ∙ sym c.degree-degree.ensures in
    let degree : IsDegree n = subst IsDegree own c.degree.ensures.valid.degree in
    let wrapped : IsWrapped n (polynomial_of b) = subst (λ (k : ℕ). IsWrapped k (polynomial_of b)) own
    (coefficients-IsWrapped b.coeffs (subst (λ (k : ℕ). 0 < k) (sym own) (degree_positive n degree))) in
    let values = multiplied c.modulus-modulus.result table.modulus c.in_ok-sum.sum.modulus n table.degree (polynomial_of a) (polynomial_of b) c.in_ok-sum.sum.values c.forward.new.into.values c.forward-2.new.into.values c.mul_add.new.self.values
    degree (sym c.modulus-modulus.ensures) c.in_ok-sum.ensures.one_modulus (sym c.degree-degree.ensures) wrapped c.in_ok-sum.ensures.values c.forward.ensures.values c.forward-2.ensures.values c.mul_add.ensures.values in
    record {
      one_modulus = c.mul_add.ensures.modulus ∙ c.in_ok-sum.ensures.one_modulus ∙ c.modulus-modulus.ensures;
      values = subst (λ (k : ℕ). AreValues (value_of table.modulus) table.degree (product k (polynomial_of a) (polynomial_of b)) c.mul_add.new.self.values) c.degree-degree.ensures values;
    }
