use Rattle.std.proofs.Common.{ℕ, List, ◌∙◌, [], ◌∷◌, ◌++◌, length, ap, arith}
use Rattle.rand_core.specs.Stream.{Stream}
use Rattle.co_bfv.specs.Draws.{uniform_draw, error_draw}
use Rattle.co_switch.proofs.Drawing.{last_read}
use Rattle.co_switch.proofs.Adding.{drawn_pair}
use Rattle.co_switch.proofs.making.push_pair.Goals as goal

pub hide-requires-clause-uniform_degree : goal.hide-requires-clause-uniform_degree
hide-requires-clause-uniform_degree g c =
    ap length (last_read c.args.k1.now.items c.push.new.self.items c.in_ok-sample_uniform.field-0 c.index.result.now c.len-at.result c.in_ok-push.ensures.items (c.len-at.ensures ∙ c.args.k1.now.ok.0) c.index.ensures)
    ∙ c.in_ok-sample_uniform.ensures.degree ∙ c.of.ensures ∙ c.degree.ensures.value

pub returns-clause-first : goal.returns-clause-first
returns-clause-first g c =
    c.in_ok-push-2.ensures.items
    ∙ ap (λ (p : List ℕ). c.args.k0.now.items ++ p ∷ [])
    (drawn_pair (length c.args.secret.now) c.of.result (g.R.Rng.stream c.args.rng.now) (g.R.Rng.stream c.sample_uniform.new.rng) c.args.secret.now c.args.hidden.now c.in_ok-sample_uniform.field-0 c.index.result.now c.in_ok-hide.field-0
    (last_read c.args.k1.now.items c.push.new.self.items c.in_ok-sample_uniform.field-0 c.index.result.now c.len-at.result c.in_ok-push.ensures.items (c.len-at.ensures ∙ c.args.k1.now.ok.0) c.index.ensures)
    c.in_ok-sample_uniform.ensures.value c.in_ok-sample_uniform.ensures.rest (c.of.ensures ∙ c.degree.ensures.value) c.in_ok-hide.ensures.value)

pub returns-clause-second : goal.returns-clause-second
returns-clause-second g c =
    c.in_ok-push.ensures.items ∙ ap (λ (p : List ℕ). c.args.k1.now.items ++ p ∷ [])
    (c.in_ok-sample_uniform.ensures.value ∙ ap (λ (k : ℕ). (uniform_draw k (g.R.Rng.stream c.args.rng.now)).0) (c.of.ensures ∙ c.degree.ensures.value))

pub returns-clause-rest : goal.returns-clause-rest
returns-clause-rest g c =
    c.in_ok-hide.ensures.rest ∙ ap (λ (s : Stream). (error_draw (length c.args.secret.now) s).1)
    (c.in_ok-sample_uniform.ensures.rest ∙ ap (λ (k : ℕ). (uniform_draw k (g.R.Rng.stream c.args.rng.now)).1) (c.of.ensures ∙ c.degree.ensures.value))

pub index-requires : goal.index-requires
index-requires g c = omega (arith, c.in_ok-push.ensures.len, c.len-at.ensures)
