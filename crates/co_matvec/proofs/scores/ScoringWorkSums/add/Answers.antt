-- One unit more.
use Rattle.std.proofs.Common.{◌≡◌, ◌*◌, ◌%◌, ◌^◌, ◌<◌, subst, sym, ◌∙◌, arith, ◌∷◌, [], ◌++◌}
use Rattle.std.proofs.lemmas.Nat.{pow_pos}
use Rattle.co_rot.specs.Subtrees.{crown_bits, subtree_bits}
use Rattle.co_rot.proofs.Crowns.{root-fits}
use Rattle.co_matvec.specs.Weights.{keyword_blocks}
use Rattle.co_matvec.specs.Units.{Scored, IsPartOf, unit_count}
use Rattle.co_crew.proofs.Unit_sums.{placed}
use Rattle.co_matvec.proofs.Working.{root_degree, add_part}
use Rattle.co_matvec.proofs.scores.ScoringWorkSums.add.Goals as goal

pub overflow_mul-root : goal.overflow_mul-root
overflow_mul-root g c =
    let keys = c.self.inside.keys.now in
    let l : c.args.unit < unit_count c.self.inside.weights.now keys = subst (λ (s : Scored). c.args.unit < unit_count s.weights s.keys) (sym c.self.view_is) c.requires.unit in
    let place = placed (keyword_blocks c.self.inside.weights.now) (2 ^ crown_bits keys) c.args.unit (pow_pos (crown_bits keys)) l in
    let fits = root-fits keys c.self.invariant.0.key_set (c.args.unit % 2 ^ crown_bits keys) place.place in
    let is : c.args.unit % c.from-count.result * c.subtree_size.result ≡ c.args.unit % 2 ^ crown_bits keys * 2 ^ subtree_bits keys = λ t. c.args.unit % (c.from-count.ensures ∙ c.subtree_count.ensures) t * c.subtree_size.ensures t in
    omega (arith, is, fits)

pub walk_subtree-requires-clause-cipher_degree : goal.walk_subtree-requires-clause-cipher_degree
walk_subtree-requires-clause-cipher_degree g c =
    let keys = c.self.inside.keys.now in
    let l : c.args.unit < unit_count c.self.inside.weights.now keys = subst (λ (s : Scored). c.args.unit < unit_count s.weights s.keys) (sym c.self.view_is) c.requires.unit in
    root_degree (record { weights = c.self.inside.weights.now; keys = keys; query = c.self.inside.query.now }) c.self.invariant.0 c.self.inside.roots.now c.self.invariant.1 c.args.unit c.from-count.result c.subtree_size.result l
    (c.from-count.ensures ∙ c.subtree_count.ensures) c.subtree_size.ensures c.index-self-unit.result

pub returns-clause-sum : goal.returns-clause-sum
returns-clause-sum g c us h =
    let keys = c.self.inside.keys.now in
    let l : c.args.unit < unit_count c.self.inside.weights.now keys = subst (λ (s : Scored). c.args.unit < unit_count s.weights s.keys) (sym c.self.view_is) c.requires.unit in
    subst (λ (s : Scored). IsPartOf s (us ++ c.args.unit ∷ []) c.walk_subtree.new.visitor) c.self.view_is
    (add_part (record { weights = c.self.inside.weights.now; keys = keys; query = c.self.inside.query.now }) c.self.invariant.0 c.self.inside.roots.now c.self.invariant.1 c.args.unit c.from-count.result c.subtree_size.result l
    (c.from-count.ensures ∙ c.subtree_count.ensures) c.subtree_size.ensures c.args.sum.now c.begin.new.self c.walk_subtree.new.visitor c.index-self-unit.result c.begin.ensures c.in_ok-walk_subtree.ensures.visits us
    (subst (λ (s : Scored). IsPartOf s us c.args.sum.now) (sym c.self.view_is) h))
