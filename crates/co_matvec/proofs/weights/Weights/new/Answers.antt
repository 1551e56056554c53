-- What is kept is of the degree.
use Rattle.std.proofs.Common.{◌≡◌, ℕ, ◌∙◌, ap, sym, subst}
use Rattle.co_math.specs.Polynomials.{unit}
use Rattle.co_rns.specs.Spectra.{IsSpectrumOf}
use Rattle.co_matvec.specs.Weights.{WeightMatrix}
use Rattle.co_matvec.proofs.weights.Weights.new.Goals as goal

pub invariant_of-result : goal.invariant_of-result
invariant_of-result c =
    let degree : c.in_ok-matrix.matrix.degree ≡ c.args.degree = ap (λ (x : WeightMatrix). x.degree) c.in_ok-matrix.ensures in
    record {
      slots_degree = c.in_ok-slots.ensures ∙ sym degree;
      tables_degree = c.in_ok-tables.ensures ∙ sym degree;
      one_is = subst (λ (n : ℕ). IsSpectrumOf n (unit n) c.in_ok-one.one) (c.in_ok-tables.ensures ∙ sym degree) c.in_ok-one.ensures;
    }
