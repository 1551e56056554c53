use Rattle.std.proofs.Common.{ℕ, ◌%◌, ap, ◌∙◌}
use Rattle.rand_core.specs.Stream.{Stream}
use Rattle.co_math.specs.Parameters.{first_modulus, second_modulus}
use Rattle.co_rns.specs.Residue_pairs.{composed}
use Rattle.co_bfv.specs.Draws.{wide_draw, coefficient_draw}
use Rattle.co_bfv.proofs.draws.coefficient.Goals as goal

pub returns-clause-drawn : goal.returns-clause-drawn
unfolding coefficient_draw
returns-clause-drawn g c =
    ap (λ (p : ℕ × Stream). (composed (c.wide-x.result % first_modulus) (p.0 % second_modulus), p.1)) c.wide-y.ensures
    ∙ ap (λ (p : ℕ × Stream). (composed (p.0 % first_modulus) ((wide_draw p.1).0 % second_modulus), (wide_draw p.1).1)) c.wide-x.ensures
