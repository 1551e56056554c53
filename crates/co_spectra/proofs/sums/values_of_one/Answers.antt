use Rattle.std.proofs.Common.{◌∙◌, ap, set, replicate}
use Rattle.co_math.specs.Coefficients.{coefficients}
use Rattle.co_math.specs.Polynomials.{unit}
use Rattle.co_spectra.proofs.Agreeing.{spectrum_low}
use Rattle.co_spectra.proofs.Ones.{one_low}
use Rattle.co_spectra.proofs.sums.values_of_one.Goals as goal

pub returns : goal.returns
returns c =
    spectrum_low c.args.tables.now (coefficients c.deref.result.now) (unit c.args.tables.now) c.small_to_spectrum.new.into
    (one_low c.args.tables.now c.deref.result.now (c.deref.ensures.value ∙ ap (λ xs. set xs 0 1) (c.in_ok-coeffs.ensures.items_if_clones_equal (λ y e. e) ∙ ap (λ n. replicate n 0) (c.get.ensures.value ∙ c.degree-degree.ensures))))
    c.small_to_spectrum.ensures
