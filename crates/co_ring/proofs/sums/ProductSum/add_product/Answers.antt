use Rattle.std.proofs.Common.{◌+◌, [], ◌∷◌, ap, ◌∙◌, arith}
use Rattle.co_ring.specs.Product_sums.{Sums}
use Rattle.co_ring.proofs.Summing.{as_all, held, held_size, last_of_all, leaves_below, leaves_fit, leaves_within, written_in_order, written_leaves}
use Rattle.co_ring.proofs.sums.ProductSum.add_product.Goals as goal

pub gather-requires : goal.gather-requires
gather-requires c =
    let s = held c.self.invariant c.self.view_is c.value-q.ensures.value c.deref_mut.ensures.value c.deref_mut.ensures.len in
    record {
      first = leaves_fit s c.args.a.now.values c.leaves.result.now c.requires.a_degree c.leaves.ensures.len;
      a_below = leaves_below s c.args.a.now.modulus c.leaves.result.now c.requires.a_modulus c.leaves.ensures.below;
      second = leaves_fit s c.args.b.now.values c.leaves-2.result.now c.requires.b_degree c.leaves-2.ensures.len;
      b_below = leaves_below s c.args.b.now.modulus c.leaves-2.result.now c.requires.b_modulus c.leaves-2.ensures.below;
      modulus = c.value-q.ensures.most;
      within = leaves_within s;
      room = omega (arith, ap (λ (s : Sums). s.count) c.self.view_is, c.requires.room);
    }

pub returns : goal.returns
returns c =
    let s = held c.self.invariant c.self.view_is c.value-q.ensures.value c.deref_mut.ensures.value c.deref_mut.ensures.len in
    let size = held_size s in
    record {
      one_modulus = ap (λ (s : Sums). s.modulus) c.self.view_is;
      one_more = ap (λ (s : Sums). s.count + 1) c.self.view_is;
      sums = last_of_all c.args.self.now.values c.args.a.now.values c.args.b.now.values _
          (written_in_order s c.gather.new.sums ((c.leaves.result.now, c.leaves-2.result.now) ∷ []) ((c.args.a.now.values, c.args.b.now.values) ∷ []) (λ i. (c.leaves.ensures.ordered c.self.inside.levels (c.requires.a_degree ∙ size) i, c.leaves-2.ensures.ordered c.self.inside.levels (c.requires.b_degree ∙ size) i) ∷ [])
          (as_all c.deref_mut.result.now c.leaves.result.now c.leaves-2.result.now c.gather.new.sums _ c.gather.ensures.sums));
    }

pub invariant_of-self : goal.invariant_of-self
invariant_of-self c =
    written_leaves (held c.self.invariant c.self.view_is c.value-q.ensures.value c.deref_mut.ensures.value c.deref_mut.ensures.len) 1 c.gather.new.sums c.gather.ensures.sums.len (omega (arith, c.requires.room)) c.gather.ensures.within_after
