-- Each root is in the crown.
use Rattle.std.proofs.Common.{◌≡◌, ◌*◌, ◌^◌, ap, ◌∙◌, arith, length}
use Rattle.co_bfv.specs.Ciphertexts.{ciphertext_degree}
use Rattle.co_rot.specs.Subtrees.{crown_bits}
use Rattle.co_rot.proofs.Crowns.{below_end, root-fits, length-crown}
use Rattle.coeus_vectors.proofs.rot.walk_all.Goals as goal

pub overflow_mul-r : goal.overflow_mul-r
overflow_mul-r g c =
    let few = below_end c.args.keys.now c.loop-r.r c.subtree_count-r-end.result c.subtree_count-r-end.ensures c.loop-r-test.true in
    let fits = root-fits c.args.keys.now c.rotations.ensures.keys c.loop-r.r few in
    let is = ap (λ s. c.loop-r.r * s) c.subtree_size-size.ensures in
    omega arith

pub index-requires : goal.index-requires
index-requires g c =
    let few = below_end c.args.keys.now c.loop-r.r c.subtree_count-r-end.result c.subtree_count-r-end.ensures c.loop-r-test.true in
    let long : length c.in_ok-roots.roots.items ≡ 2 ^ crown_bits c.args.keys.now = ap length c.in_ok-roots.ensures.value ∙ length-crown c.args.keys.now c.args.query.now in
    let ok = c.in_ok-roots.roots.ok.0 in
    omega arith

pub walk_subtree-requires-clause-cipher_degree : goal.walk_subtree-requires-clause-cipher_degree
walk_subtree-requires-clause-cipher_degree g c =
    let few = below_end c.args.keys.now c.loop-r.r c.subtree_count-r-end.result c.subtree_count-r-end.ensures c.loop-r-test.true in
    let long : length c.in_ok-roots.roots.items ≡ 2 ^ crown_bits c.args.keys.now = ap length c.in_ok-roots.ensures.value ∙ length-crown c.args.keys.now c.args.query.now in
    ap ciphertext_degree c.index.ensures ∙ c.in_ok-roots.ensures.one_degree c.loop-r.r c.index.result.now (omega arith)
