use Rattle.std.proofs.Common.{ap, ◌∙◌}
use Rattle.co_bfv.specs.Draws.{error_draw}
use Rattle.co_bfv.proofs.Encrypted.{masked_is}
use Rattle.co_bfv.proofs.encryption.masked.Goals as goal

pub returns-clause-value : goal.returns-clause-value
returns-clause-value g c =
    masked_is c.args.secret.now c.args.message.now.coeffs c.args.a.now (g.R.Rng.stream c.args.rng.now) c.in_ok-c0.c0 c.in_ok-mask.mask c.sub_in.new.self
    c.degree.ensures.secret.degree c.requires.message_degree c.in_ok-c0.ensures.value c.in_ok-mask.ensures.value c.sub_in.ensures

pub returns-clause-rest : goal.returns-clause-rest
returns-clause-rest g c = c.in_ok-c0.ensures.rest ∙ ap (λ n. (error_draw n (g.R.Rng.stream c.args.rng.now)).1) c.requires.message_degree

pub returns-clause-degree : goal.returns-clause-degree
returns-clause-degree g c = c.sub_in.ensures.len ∙ c.in_ok-c0.ensures.value.len ∙ c.requires.message_degree
