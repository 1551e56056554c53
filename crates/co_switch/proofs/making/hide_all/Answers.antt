use Rattle.std.proofs.Common.{◌≡◌, ◌∙◌, refl, arith}
use Rattle.co_math.specs.Parameters.{digit_count}
use Rattle.co_switch.proofs.Hiding.{nothing_made, one_made, all_made}
use Rattle.co_switch.proofs.making.hide_all.Goals as goal

pub loop-index-init : goal.loop-index-init
loop-index-init g c = record {
  degree = c.requires.degree;
  made = λ e odd hides. nothing_made c.args.secret.now e (g.R.Rng.stream c.args.rng.now) c.args.k0.now.items c.args.k1.now.items c.args.hidden.now c.requires.no_first c.requires.no_second
      (let h = c.degree.ensures.secret in h.degree) odd hides;
}

pub loop-index-preserved : goal.loop-index-preserved
loop-index-preserved g c = record {
  degree = c.scale.ensures.len ∙ c.loop-index.invariant.degree;
  made = λ e odd hides. one_made c.args.secret.now e c.loop-index.index (g.R.Rng.stream c.args.rng.now) (g.R.Rng.stream c.loop-index.rng) (g.R.Rng.stream c.push_pair.new.rng)
      c.loop-index.k0.items c.loop-index.k1.items c.push_pair.new.k0.items c.push_pair.new.k1.items c.loop-index.hidden _ _ c.scale.new.self
      (c.loop-index.invariant.made e odd hides) refl refl c.in_ok-push_pair.ensures.rest c.in_ok-push_pair.ensures.first c.in_ok-push_pair.ensures.second c.scale.ensures;
}

pub returns : goal.returns
returns g c = λ e odd hides.
    let all : c.loop-index.index ≡ digit_count = omega arith in
    all_made c.args.secret.now e c.loop-index.index (g.R.Rng.stream c.args.rng.now) (g.R.Rng.stream c.loop-index.rng) c.loop-index.k0.items c.loop-index.k1.items c.loop-index.hidden (c.loop-index.invariant.made e odd hides) all
