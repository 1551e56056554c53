use Rattle.std.proofs.Common.{ℕ, ◌∙◌, length, ap}
use Rattle.co_math.specs.Parameters.{q}
use Rattle.co_math.specs.Coefficients.{residues_of, signed_coefficients}
use Rattle.co_bfv.specs.Draws.{error_draw}
use Rattle.co_switch.proofs.making.hide.Goals as goal

pub returns-clause-value : goal.returns-clause-value
returns-clause-value g c =
    let s = g.R.Rng.stream c.args.rng.now in
    c.in_ok-hide_in.ensures (signed_coefficients (error_draw (length c.args.secret.now) s).0)
    (c.in_ok-sum.ensures.value ∙ ap (λ (k : ℕ). residues_of q k (signed_coefficients (error_draw k s).0)) (c.of-degree.ensures ∙ c.degree.ensures.value))

pub hide_in-requires-clause-sum_degree : goal.hide_in-requires-clause-sum_degree
hide_in-requires-clause-sum_degree g c = c.in_ok-sum.ensures.degree ∙ c.of-degree.ensures ∙ c.degree.ensures.value

pub returns-clause-rest : goal.returns-clause-rest
returns-clause-rest g c =
    c.in_ok-sum.ensures.rest ∙ ap (λ (k : ℕ). (error_draw k (g.R.Rng.stream c.args.rng.now)).1) (c.of-degree.ensures ∙ c.degree.ensures.value)
