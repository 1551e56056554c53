use Rattle.co_math.specs.Coefficients.{signed_coefficients}
use Rattle.co_bfv.proofs.Signed_lists.{whole_residues}
use Rattle.co_bfv.proofs.signed.residues.Goals as goal

pub returns-clause-value : goal.returns-clause-value
returns-clause-value c =
    let p = c.from_parts.ensures in
    whole_residues c.args.degree (signed_coefficients c.args.values.now) c.from_parts.result c.in_ok-first.first.coeffs c.in_ok-second.second.coeffs
    p.whole p.first_residues p.second_residues c.in_ok-first.ensures.coeffs c.in_ok-second.ensures.coeffs
