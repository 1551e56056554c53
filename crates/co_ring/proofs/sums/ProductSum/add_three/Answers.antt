use Rattle.std.proofs.Common.{◌≡◌, ◌+◌, [], ◌∷◌, ap, ◌∙◌, arith}
use Rattle.co_ring.specs.Product_sums.{Sums}
use Rattle.co_ring.proofs.Summing.{all_ordered, held, held_size, leaves_below, leaves_fit, leaves_within, written_in_order, written_leaves}
use Rattle.co_ring.proofs.sums.ProductSum.add_three.Goals as goal

pub gather_three-requires : goal.gather_three-requires
gather_three-requires c =
    let s = held c.self.invariant c.self.view_is c.value-q.ensures.value c.deref_mut.ensures.value c.deref_mut.ensures.len in
    record {
      a_length = leaves_fit s c.args.a.now.values c.leaves.result.now c.requires.a_degree c.leaves.ensures.len;
      b_length = leaves_fit s c.args.b.now.values c.leaves-2.result.now c.requires.b_degree c.leaves-2.ensures.len;
      c_length = leaves_fit s c.args.c.now.values c.leaves-3.result.now c.requires.c_degree c.leaves-3.ensures.len;
      d_length = leaves_fit s c.args.d.now.values c.leaves-4.result.now c.requires.d_degree c.leaves-4.ensures.len;
      e_length = leaves_fit s c.args.e.now.values c.leaves-5.result.now c.requires.e_degree c.leaves-5.ensures.len;
      f_length = leaves_fit s c.args.f.now.values c.leaves-6.result.now c.requires.f_degree c.leaves-6.ensures.len;
      modulus = c.value-q.ensures.most;
      a_below = leaves_below s c.args.a.now.modulus c.leaves.result.now c.requires.a_modulus c.leaves.ensures.below;
      b_below = leaves_below s c.args.b.now.modulus c.leaves-2.result.now c.requires.b_modulus c.leaves-2.ensures.below;
      c_below = leaves_below s c.args.c.now.modulus c.leaves-3.result.now c.requires.c_modulus c.leaves-3.ensures.below;
      d_below = leaves_below s c.args.d.now.modulus c.leaves-4.result.now c.requires.d_modulus c.leaves-4.ensures.below;
      e_below = leaves_below s c.args.e.now.modulus c.leaves-5.result.now c.requires.e_modulus c.leaves-5.ensures.below;
      f_below = leaves_below s c.args.f.now.modulus c.leaves-6.result.now c.requires.f_modulus c.leaves-6.ensures.below;
      within = leaves_within s;
      room = omega (arith, ap (λ (s : Sums). s.count) c.self.view_is, c.requires.room);
    }

pub invariant_of-self : goal.invariant_of-self
invariant_of-self c =
    written_leaves (held c.self.invariant c.self.view_is c.value-q.ensures.value c.deref_mut.ensures.value c.deref_mut.ensures.len) 3 c.gather_three.new.sums c.gather_three.ensures.sums.len (omega (arith, c.requires.room)) c.gather_three.ensures.within_after

pub returns : goal.returns
returns c =
    let s = held c.self.invariant c.self.view_is c.value-q.ensures.value c.deref_mut.ensures.value c.deref_mut.ensures.len in
    let size = held_size s in
    let pairs = (c.leaves.result.now, c.leaves-2.result.now) ∷ (c.leaves-3.result.now, c.leaves-4.result.now) ∷ (c.leaves-5.result.now, c.leaves-6.result.now) ∷ [] in
    let views = (c.args.a.now.values, c.args.b.now.values) ∷ (c.args.c.now.values, c.args.d.now.values) ∷ (c.args.e.now.values, c.args.f.now.values) ∷ [] in
    let views_are : all_ordered c.self.inside.levels pairs ≡ views = (λ i. (c.leaves.ensures.ordered c.self.inside.levels (c.requires.a_degree ∙ size) i, c.leaves-2.ensures.ordered c.self.inside.levels (c.requires.b_degree ∙ size) i) ∷ (c.leaves-3.ensures.ordered c.self.inside.levels (c.requires.c_degree ∙ size) i, c.leaves-4.ensures.ordered c.self.inside.levels (c.requires.d_degree ∙ size) i) ∷ (c.leaves-5.ensures.ordered c.self.inside.levels (c.requires.e_degree ∙ size) i, c.leaves-6.ensures.ordered c.self.inside.levels (c.requires.f_degree ∙ size) i) ∷ []) in
    record {
      one_modulus = ap (λ (s : Sums). s.modulus) c.self.view_is;
      more = ap (λ (s : Sums). s.count + 3) c.self.view_is;
      sums = written_in_order s c.gather_three.new.sums pairs views views_are c.gather_three.ensures.sums;
    }
