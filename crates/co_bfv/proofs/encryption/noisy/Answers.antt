use Rattle.co_bfv.proofs.Encrypted.{noisy_residues}
use Rattle.std.proofs.Common.{ap, ◌∙◌}
use Rattle.co_bfv.specs.Draws.{error_draw}
use Rattle.co_bfv.proofs.encryption.noisy.Goals as goal

pub returns-clause-value : goal.returns-clause-value
returns-clause-value g c =
    noisy_residues c.args.message.now.coeffs c.shape.result (g.R.Rng.stream c.args.rng.now) c.in_ok-scaled.scaled c.in_ok-e.e c.add_in.new.self
    c.degree.ensures.valid.degree c.shape.ensures c.in_ok-scaled.ensures c.in_ok-e.ensures.value c.add_in.ensures

pub returns-clause-rest : goal.returns-clause-rest
returns-clause-rest g c = c.in_ok-e.ensures.rest ∙ ap (λ k. (error_draw k (g.R.Rng.stream c.args.rng.now)).1) c.shape.ensures
