use Rattle.std.proofs.Common.{◌≡◌, ◌<◌, ℕ, length, get_or, sym, ap, subst, ◌∙◌, arith}
use Rattle.std.proofs.lemmas.List.{length-replicate, get_or-replicate}
use Rattle.co_math.specs.Coefficients.{IsDegree}
use Rattle.co_math.specs.Parameters.{q}
use Rattle.co_rns.proofs.decompositions.Decomposition.zero.Goals as goal

pub invariant_of-result : goal.invariant_of-result
invariant_of-result c =
    let n = c.get-n.result in
    let xs = c.in_ok-vec.field-0.items in
    let is = c.in_ok-vec.ensures.items_if_clones_equal (λ y e. e) in
    let its = c.in_ok-vec-2.ensures.items_if_clones_equal (λ y e. e) in
    let len : length xs ≡ n = ap length is ∙ length-replicate n 0 in
    record {
      whole = record {
        degree = subst IsDegree (sym len) c.get-n.ensures.valid;
        below = λ k u. subst (λ (r : ℕ). r < q) (sym (ap (λ ys. get_or ys k 0) is ∙ get_or-replicate n k 0 0 (omega (arith, u, len)))) (omega arith);
      };
      one_degree = ap length its ∙ length-replicate n 0 ∙ sym len;
    }

pub returns : goal.returns
returns c = ap length (c.in_ok-vec.ensures.items_if_clones_equal (λ y e. e)) ∙ length-replicate c.get-n.result 0 ∙ c.get-n.ensures.value
