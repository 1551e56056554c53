use Rattle.std.proofs.Common.{◌∙◌, sym, ap, subst}
use Rattle.std.proofs.lemmas.Result.{IfOk-weaker}
use Rattle.rand_core.specs.Stream.{Stream}
use Rattle.co_math.specs.Coefficients.{signed_coefficients}
use Rattle.co_switch.specs.Keys.{Key, IsKey, IsGoodKey, key_degree}
use Rattle.co_switch.proofs.Hiding.{key_draw-IsKey, key_draw-good, degree-key_draw}
use Rattle.co_switch.proofs.making.make_key.Goals as goal

pub from_parts-requires : goal.from_parts-requires
from_parts-requires g c =
    let h = c.degree.ensures.secret in
    subst IsKey (sym (ap (λ (p : Key × Stream). p.0) c.in_ok-make_pairs.ensures)) (key_draw-IsKey c.args.secret.now c.args.element (g.R.Rng.stream c.args.rng.now) h.degree c.requires.odd c.requires.within)

pub returns-clause-value : goal.returns-clause-value
returns-clause-value g c = IfOk-weaker c.from_parts.result _ _ (λ key e. e ∙ ap (λ (p : Key × Stream). p.0) c.in_ok-make_pairs.ensures) c.from_parts.ensures

pub returns-clause-rest : goal.returns-clause-rest
returns-clause-rest g c = IfOk-weaker c.from_parts.result _ _ (λ key e. ap (λ (p : Key × Stream). p.1) c.in_ok-make_pairs.ensures) c.from_parts.ensures

pub returns-clause-good : goal.returns-clause-good
returns-clause-good g c =
    let h = c.degree.ensures.secret in
    IfOk-weaker c.from_parts.result _ _ (λ key e. subst (IsGoodKey (signed_coefficients c.args.secret.now)) (sym e) (key_draw-good c.args.secret.now c.args.element (g.R.Rng.stream c.args.rng.now) h.degree c.requires.odd)) (returns-clause-value g c)

pub returns-clause-degree : goal.returns-clause-degree
returns-clause-degree g c =
    let h = c.degree.ensures.secret in
    IfOk-weaker c.from_parts.result _ _ (λ key e. ap key_degree e ∙ degree-key_draw c.args.secret.now c.args.element (g.R.Rng.stream c.args.rng.now) h.degree c.requires.odd) (returns-clause-value g c)
