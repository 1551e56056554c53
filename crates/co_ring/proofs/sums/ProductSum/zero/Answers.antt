use Rattle.std.proofs.Common.{length, refl, sym, ap, ◌∙◌, arith}
use Rattle.std.proofs.lemmas.List.{length-replicate}
use Rattle.co_math.specs.Exponents.{bit_reversal}
use Rattle.co_ring.proofs.Orderings.{in_order-length, in_order-get}
use Rattle.co_ring.proofs.Summing.{none_is}
use Rattle.co_ring.proofs.sums.ProductSum.zero.Goals as goal

pub invariant_of-result : goal.invariant_of-result
invariant_of-result c =
    let xs = c.in_ok-vec.field-0.items in
    let n = c.get-n.result in
    let is = c.in_ok-vec.ensures.items_if_clones_equal (λ y e. e) in
    record {
      least = c.exponent.ensures.least;
      most = c.exponent.ensures.most;
      len = ap length is ∙ length-replicate n 0 ∙ c.get-n.ensures.value ∙ sym c.exponent.ensures.value;
      few = omega arith;
      within = λ i. omega (arith, none_is n xs is i);
    }

pub returns : goal.returns
returns c =
    let xs = c.in_ok-vec.field-0.items in
    let n = c.get-n.result in
    let l = c.exponent.result in
    let is = c.in_ok-vec.ensures.items_if_clones_equal (λ y e. e) in
    record {
      one_modulus = refl;
      none = refl;
      zeros = record {
        len = in_order-length l xs ∙ c.exponent.ensures.value;
        each = λ k u. in_order-get l k xs (omega (arith, u, c.exponent.ensures.value)) ∙ none_is n xs is (bit_reversal l k);
      };
    }
