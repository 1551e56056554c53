use Rattle.std.proofs.Common.{ℕ, ◌≡◌, ◌∙◌, ◌*◌, ◌/◌, ◌<◌, List, length, sym, ap, subst, arith}
use Rattle.rand_core.specs.Stream.{Stream}
use Rattle.co_math.specs.Logarithms.{log2_up}
use Rattle.co_switch.specs.Keys.{Key, rotation_element}
use Rattle.co_switch.specs.Draws.{keys_draw}
use Rattle.co_switch.proofs.Listing.{no_keys, keys_more}
use Rattle.co_switch.proofs.making.make_rotations.Goals as goal

pub loop-index-init : goal.loop-index-init
loop-index-init g c = no_keys c.args.secret.now (rotation_element (length c.args.secret.now)) (g.R.Rng.stream c.args.rng.now) c.args.keys.now.items c.requires.none

pub make_key-requires-clause-within : goal.make_key-requires-clause-within
make_key-requires-clause-within g c = subst (λ (m : ℕ). c.rotation_element-element.result < 2 * m) (sym c.requires.one_degree) c.rotation_element-element.ensures.within

pub loop-index-preserved : goal.loop-index-preserved
loop-index-preserved g c = keys_more _ _ _ _ _ _ _ _ _ _ c.loop-index.invariant (c.rotation_element-element.ensures.value ∙ ap (λ (m : ℕ). rotation_element m c.loop-index.index) (sym c.requires.one_degree)) c.in_ok-make_key.ensures.value c.in_ok-make_key.ensures.rest c.in_ok-push.ensures.items

pub returns-clause-value : goal.returns-clause-value
returns-clause-value g c =
    let n = length c.args.secret.now in
    let all : c.loop-index.index ≡ log2_up (n / 2) = omega (arith, c.log2_up-index-end.ensures.value) ∙ c.log2_up-index-end.ensures.value ∙ ap (λ (m : ℕ). log2_up (m / 2)) (sym c.requires.one_degree) in
    ap (λ (p : List Key × Stream). p.0) (c.loop-index.invariant ∙ ap (λ (m : ℕ). keys_draw c.args.secret.now (rotation_element n) m (g.R.Rng.stream c.args.rng.now)) all)

pub returns-clause-rest : goal.returns-clause-rest
returns-clause-rest g c =
    let n = length c.args.secret.now in
    let all : c.loop-index.index ≡ log2_up (n / 2) = omega (arith, c.log2_up-index-end.ensures.value) ∙ c.log2_up-index-end.ensures.value ∙ ap (λ (m : ℕ). log2_up (m / 2)) (sym c.requires.one_degree) in
    ap (λ (p : List Key × Stream). p.1) (c.loop-index.invariant ∙ ap (λ (m : ℕ). keys_draw c.args.secret.now (rotation_element n) m (g.R.Rng.stream c.args.rng.now)) all)
