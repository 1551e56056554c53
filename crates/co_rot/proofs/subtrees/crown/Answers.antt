-- Each root is made from an earlier one.
use Rattle.std.proofs.Common.{◌≡◌, ℕ, ◌-◌, ◌*◌, ◌^◌, ◌<◌, ◌++◌, ◌∷◌, [], refl, sym, ap, subst, ◌∙◌, arith, List, length, get_or}
use Rattle.co_bfv.specs.Ciphertexts.{Ciphertext, ciphertext_degree}
use Rattle.co_switch.specs.Keys.{rotation_key}
use Rattle.co_switch.specs.Switches.{switched}
use Rattle.co_switch.proofs.Rising.{risen_none}
use Rattle.co_rot.specs.Bits.{lowest_bit, parent_of}
use Rattle.co_bfv.specs.Totals.{no_ciphertext}
use Rattle.co_rot.specs.Subtrees.{crown_bits}
use Rattle.co_rot.proofs.Keyed.{read_as}
use Rattle.co_rot.proofs.Crowns.{AreRoots, one_root, root-below, root-fits, length-roots, root-degree, more_roots, roots-risen, roots-risen-more, all_roots, all_counted, below_end, at_end}
use Rattle.co_rot.proofs.subtrees.crown.Goals as goal

pub returns-in_err-copy-clause-rise : goal.returns-in_err-copy-clause-rise
returns-in_err-copy-clause-rise g c = risen_none c.args.steps.now (2 ^ crown_bits c.args.keys.now - 1)

pub returns-in_err-push-clause-rise : goal.returns-in_err-push-clause-rise
returns-in_err-push-clause-rise g c = risen_none c.args.steps.now (2 ^ crown_bits c.args.keys.now - 1)

pub loop-r-init : goal.loop-r-init
loop-r-init g c =
    let e : c.push.new.self.items ≡ c.args.query.now ∷ [] = c.in_ok-push.ensures.items ∙ (λ i. c.new-roots.ensures.items i ++ c.in_ok-copy.ensures i ∷ []) in
    subst (λ (xs : List Ciphertext). AreRoots c.args.keys.now c.args.query.now 1 xs c.args.steps.now c.args.steps.now) (sym e) (one_root c.args.keys.now c.args.query.now c.args.steps.now)

pub index-requires : goal.index-requires
index-requires g c =
    let long = length-roots c.args.keys.now c.args.query.now c.rotations.ensures.keys c.degree.ensures.ciphertext c.requires c.loop-r.r c.loop-r.roots.items c.args.steps.now c.loop-r.steps c.loop-r.invariant in
    let ok = c.loop-r.roots.ok.0 in
    omega (arith, c.parent.ensures.smaller)

pub overflow_mul-r : goal.overflow_mul-r
overflow_mul-r g c =
    let few = below_end c.args.keys.now c.loop-r.r c.subtree_count-r-end.result c.subtree_count-r-end.ensures c.loop-r-test.true in
    let fits = root-fits c.args.keys.now c.rotations.ensures.keys c.loop-r.r few in
    let is = ap (λ s. c.loop-r.r * s) c.subtree_size-size.ensures in
    omega arith

pub turn-requires-clause-within : goal.turn-requires-clause-within
turn-requires-clause-within g c =
    let few = below_end c.args.keys.now c.loop-r.r c.subtree_count-r-end.result c.subtree_count-r-end.ensures c.loop-r-test.true in
    subst (λ (s : ℕ). c.loop-r.r * s < 2 ^ length c.args.keys.now.rotations) (sym c.subtree_size-size.ensures) (root-below c.args.keys.now c.rotations.ensures.keys c.loop-r.r few)

pub turn-requires-clause-one_degree : goal.turn-requires-clause-one_degree
turn-requires-clause-one_degree g c =
    let few = below_end c.args.keys.now c.loop-r.r c.subtree_count-r-end.result c.subtree_count-r-end.ensures c.loop-r-test.true in
    let ok = c.loop-r.roots.ok.0 in
    let long = length-roots c.args.keys.now c.args.query.now c.rotations.ensures.keys c.degree.ensures.ciphertext c.requires c.loop-r.r c.loop-r.roots.items c.args.steps.now c.loop-r.steps c.loop-r.invariant in
    ap ciphertext_degree c.index.ensures
    ∙ root-degree c.args.keys.now c.args.query.now c.rotations.ensures.keys c.degree.ensures.ciphertext c.requires c.loop-r.r c.loop-r.roots.items c.args.steps.now c.loop-r.steps c.loop-r.invariant
    (omega arith) c.parent.result c.index.result.now (omega (arith, c.parent.ensures.smaller))

pub loop-r-preserved : goal.loop-r-preserved
loop-r-preserved g c =
    let few = below_end c.args.keys.now c.loop-r.r c.subtree_count-r-end.result c.subtree_count-r-end.ensures c.loop-r-test.true in
    let long = length-roots c.args.keys.now c.args.query.now c.rotations.ensures.keys c.degree.ensures.ciphertext c.requires c.loop-r.r c.loop-r.roots.items c.args.steps.now c.loop-r.steps c.loop-r.invariant in
    let inside : c.parent.result < length c.loop-r.roots.items = omega (arith, c.parent.ensures.smaller) in
    let from : c.index.result.now ≡ get_or c.loop-r.roots.items (parent_of c.loop-r.r) no_ciphertext =
    read_as c.loop-r.roots.items c.parent.result c.index.result.now no_ciphertext inside c.index.ensures ∙ ap (λ p. get_or c.loop-r.roots.items p no_ciphertext) c.parent.ensures.value in
    more_roots c.args.keys.now c.args.query.now c.rotations.ensures.keys c.degree.ensures.ciphertext c.requires c.loop-r.r c.loop-r.roots.items c.args.steps.now c.loop-r.steps c.loop-r.invariant
    c.in_ok-next.next c.turn.new.steps c.push-in-loop-r.new.self.items (omega arith) few c.in_ok-push-2.ensures.items
    (c.in_ok-next.ensures.value ∙ (λ i. switched (rotation_key c.args.keys.now (lowest_bit (c.loop-r.r * c.subtree_size-size.ensures i))) (from i)))
    c.in_ok-next.ensures.step

pub returns-in_err-next-clause-rise : goal.returns-in_err-next-clause-rise
returns-in_err-next-clause-rise g c =
    let few = below_end c.args.keys.now c.loop-r.r c.subtree_count-r-end.result c.subtree_count-r-end.ensures c.loop-r-test.true in
    roots-risen c.args.keys.now c.args.query.now c.rotations.ensures.keys c.degree.ensures.ciphertext c.requires c.loop-r.r c.loop-r.roots.items c.args.steps.now c.loop-r.steps c.loop-r.invariant
    c.turn.new.steps (omega arith) c.in_err-next.ensures.no_step

pub returns-in_err-push-2-clause-rise : goal.returns-in_err-push-2-clause-rise
returns-in_err-push-2-clause-rise g c =
    let few = below_end c.args.keys.now c.loop-r.r c.subtree_count-r-end.result c.subtree_count-r-end.ensures c.loop-r-test.true in
    roots-risen-more c.args.keys.now c.args.query.now c.rotations.ensures.keys c.degree.ensures.ciphertext c.requires c.loop-r.r c.loop-r.roots.items c.args.steps.now c.loop-r.steps c.loop-r.invariant
    c.turn.new.steps (omega arith) few c.in_ok-next.ensures.step

pub returns-clause-value : goal.returns-clause-value
returns-clause-value g c =
    all_roots c.args.keys.now c.args.query.now c.rotations.ensures.keys c.degree.ensures.ciphertext c.requires c.loop-r.r c.loop-r.roots.items c.args.steps.now c.loop-r.steps c.loop-r.invariant
    (at_end c.args.keys.now c.loop-r.r c.subtree_count-r-end.result c.subtree_count-r-end.ensures (λ some. omega arith) (omega arith))

pub returns-clause-one_degree : goal.returns-clause-one_degree
returns-clause-one_degree g c =
    root-degree c.args.keys.now c.args.query.now c.rotations.ensures.keys c.degree.ensures.ciphertext c.requires c.loop-r.r c.loop-r.roots.items c.args.steps.now c.loop-r.steps c.loop-r.invariant
    (omega (arith, at_end c.args.keys.now c.loop-r.r c.subtree_count-r-end.result c.subtree_count-r-end.ensures (λ some. omega arith) (omega arith)))

pub returns-clause-steps : goal.returns-clause-steps
returns-clause-steps g c =
    all_counted c.args.keys.now c.args.query.now c.rotations.ensures.keys c.degree.ensures.ciphertext c.requires c.loop-r.r c.loop-r.roots.items c.args.steps.now c.loop-r.steps c.loop-r.invariant
    (at_end c.args.keys.now c.loop-r.r c.subtree_count-r-end.result c.subtree_count-r-end.ensures (λ some. omega arith) (omega arith))

pub returns-clause-rise : goal.returns-clause-rise
returns-clause-rise g c =
    let end = at_end c.args.keys.now c.loop-r.r c.subtree_count-r-end.result c.subtree_count-r-end.ensures (λ some. omega arith) (omega arith) in
    roots-risen c.args.keys.now c.args.query.now c.rotations.ensures.keys c.degree.ensures.ciphertext c.requires c.loop-r.r c.loop-r.roots.items c.args.steps.now c.loop-r.steps c.loop-r.invariant
    c.loop-r.steps (omega arith) refl
