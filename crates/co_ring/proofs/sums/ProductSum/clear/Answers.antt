use Rattle.std.proofs.Common.{ℕ, List, length, get_or, refl, sym, ap, subst, ◌∙◌, arith}
use Rattle.co_math.specs.Exponents.{bit_reversal}
use Rattle.co_ring.specs.Spectra.{in_order}
use Rattle.co_ring.specs.Product_sums.{Sums, AreSumLeaves}
use Rattle.co_ring.proofs.Keeping.{written_back}
use Rattle.co_ring.proofs.Orderings.{in_order-length, in_order-get, view_length}
use Rattle.co_ring.proofs.sums.ProductSum.clear.Goals as goal

pub invariant_of-self : goal.invariant_of-self
invariant_of-self c =
    let t = c.self.inside in
    let ys = c.clear.new.sums in
    subst (AreSumLeaves t.modulus t.levels 0) (sym (written_back t.leaves.len t.leaves.items ys (c.clear.ensures.len ∙ c.deref_mut.ensures.len)))
    (record {
      least = c.self.invariant.least;
      most = c.self.invariant.most;
      len = c.clear.ensures.len ∙ ap length c.deref_mut.ensures.value ∙ c.self.invariant.len;
      few = omega arith;
      within = λ i. omega (arith, c.clear.ensures.zeros i);
    })

pub returns : goal.returns
returns c =
    let t = c.self.inside in
    let l = t.levels in
    let ys = c.clear.new.sums in
    let own = ap (λ (s : Sums). s.values) c.self.view_is in
    let own_n = view_length l t.leaves.items c.args.self.now.values own in
    let back = written_back t.leaves.len t.leaves.items ys (c.clear.ensures.len ∙ c.deref_mut.ensures.len) in
    record {
      one_modulus = ap (λ (s : Sums). s.modulus) c.self.view_is;
      none = refl;
      zeros = record {
        len = in_order-length l _ ∙ sym own_n;
        each = λ k u.
            ap (λ (zs : List ℕ). get_or (in_order l zs) k 0) back ∙ in_order-get l k ys (omega (arith, u, own_n)) ∙ omega (arith, c.clear.ensures.zeros (bit_reversal l k));
      };
    }
