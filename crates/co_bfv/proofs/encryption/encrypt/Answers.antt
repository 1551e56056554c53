use Rattle.std.proofs.Common.{◌∙◌, sym, subst}
use Rattle.co_math.specs.Parameters.{fresh_bound}
use Rattle.co_math.specs.Coefficients.{coefficients, signed_coefficients}
use Rattle.co_bfv.specs.Ciphertexts.{Ciphertext, MeansWithin}
use Rattle.co_bfv.proofs.Encrypted.{rest_after, fresh_means, encryption_is}
use Rattle.co_bfv.proofs.encryption.encrypt.Goals as goal

pub returns-clause-value : goal.returns-clause-value
returns-clause-value g c =
    c.from_parts.ensures
    ∙ encryption_is c.args.secret.now c.args.message.now.coeffs c.shape.result (g.R.Rng.stream c.args.rng.now) (g.R.Rng.stream c.sample_uniform.new.rng) c.in_ok-a.a c.degree.ensures.secret
    c.shape.ensures c.requires.one_degree c.in_ok-a.ensures.value c.in_ok-a.ensures.rest c.in_ok-c0.c0 c.in_ok-c0.ensures.value

pub returns-clause-rest : goal.returns-clause-rest
returns-clause-rest g c =
    rest_after c.args.secret.now c.args.message.now.coeffs c.shape.result (g.R.Rng.stream c.args.rng.now) (g.R.Rng.stream c.sample_uniform.new.rng) c.in_ok-a.a c.degree.ensures.secret
    c.shape.ensures c.requires.one_degree c.in_ok-a.ensures.value c.in_ok-a.ensures.rest (g.R.Rng.stream c.masked.new.rng) c.in_ok-c0.ensures.rest

pub returns-clause-fresh : goal.returns-clause-fresh
returns-clause-fresh g c =
    subst (λ (v : Ciphertext). MeansWithin (signed_coefficients c.args.secret.now) v (coefficients c.args.message.now.coeffs) fresh_bound) (sym (returns-clause-value g c))
    (fresh_means c.args.secret.now c.args.message.now.coeffs c.shape.result (g.R.Rng.stream c.args.rng.now) (g.R.Rng.stream c.sample_uniform.new.rng) c.in_ok-a.a c.degree.ensures.secret
    c.shape.ensures c.requires.one_degree c.in_ok-a.ensures.value c.in_ok-a.ensures.rest)
