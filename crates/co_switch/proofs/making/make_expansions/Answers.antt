use Rattle.std.proofs.Common.{ℕ, ◌∙◌, ◌*◌, ◌<◌, length, sym, ap, subst}
use Rattle.co_switch.specs.Keys.{expansion_element}
use Rattle.co_switch.proofs.Listing.{no_keys, keys_more}
use Rattle.co_switch.proofs.making.make_expansions.Goals as goal

pub loop-index-init : goal.loop-index-init
loop-index-init g c = no_keys c.args.secret.now (expansion_element (length c.args.secret.now)) (g.R.Rng.stream c.args.rng.now) c.args.keys.now.items c.requires.none

pub make_key-requires-clause-within : goal.make_key-requires-clause-within
make_key-requires-clause-within g c = subst (λ (m : ℕ). c.expansion_element-element.result < 2 * m) (sym c.requires.one_degree) c.expansion_element-element.ensures.within

pub loop-index-preserved : goal.loop-index-preserved
loop-index-preserved g c = keys_more _ _ _ _ _ _ _ _ _ _ c.loop-index.invariant (c.expansion_element-element.ensures.value ∙ ap (λ (m : ℕ). expansion_element m c.loop-index.index) (sym c.requires.one_degree)) c.in_ok-make_key.ensures.value c.in_ok-make_key.ensures.rest c.in_ok-push.ensures.items
