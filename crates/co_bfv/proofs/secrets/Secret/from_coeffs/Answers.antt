use Rattle.std.proofs.Common.{ℤ, List, ◌≡◌, ◌∙◌, ap}
use Rattle.co_math.specs.Parameters.{q}
use Rattle.co_math.specs.Coefficients.{residues_of, signed_coefficients}
use Rattle.co_bfv.proofs.Kept.{made_kept}
use Rattle.co_bfv.proofs.secrets.Secret.from_coeffs.Goals as goal

pub invariant_of-result : goal.invariant_of-result
invariant_of-result c =
    let same : c.deref.result.now ≡ c.args.coeffs.items = cc in
    let whole = c.in_ok-whole.ensures.value ∙ ap (λ (xs : List ℤ). residues_of q c.args.degree (signed_coefficients xs)) same in
    made_kept c.args.coeffs.items c.args.degree c.in_ok-tables.tables c.in_ok-whole.whole c.to_spectrum.new.into c.requires.small c.requires.one_degree c.in_ok-tables.ensures whole c.to_spectrum.ensures
