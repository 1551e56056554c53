use Rattle.std.proofs.Common.{rules, sym, ◌∙◌, refl}
use Rattle.co_math.proofs.Degrees.{degree_ranges, degree_passes}
use Rattle.co_math.proofs.sizes.is_degree.Goals as goal

pub returns-in-16-clause-value : goal.returns-in-16-clause-value
returns-in-16-clause-value c = search rules

pub returns-in-16-clause-exact : goal.returns-in-16-clause-exact
returns-in-16-clause-exact c =
    let d = degree_ranges c.args.n (sym (returns-in-16-clause-value c)) in
    (λ h. d.degree, λ d. refl)

pub returns-in_default-clause-value : goal.returns-in_default-clause-value
returns-in_default-clause-value c = search rules

pub returns-in_default-clause-exact : goal.returns-in_default-clause-exact
returns-in_default-clause-exact c = (λ h. absurd cc, λ d. returns-in_default-clause-value c ∙ degree_passes c.args.n d)
