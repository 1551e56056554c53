use Rattle.std.proofs.Common.{ℕ, ◌≡◌, ◌∙◌, sym, ap, subst}
use Rattle.std.proofs.lemmas.Result.{IfOk-weaker}
use Rattle.co_math.specs.Parameters.{q}
use Rattle.co_math.specs.Coefficients.{residues_of}
use Rattle.co_switch.specs.Keys.{AreSpectra}
use Rattle.co_switch.specs.Switches.{automorphism, digit_sum}
use Rattle.co_switch.proofs.Spectral.{spectra-degree}
use Rattle.co_switch.proofs.Adding.{image-degree}
use Rattle.co_switch.proofs.switching.image_sums.Goals as goal

pub digit_sums-requires-clause-one_degree : goal.digit_sums-requires-clause-one_degree
digit_sums-requires-clause-one_degree c =
    image-degree c.element.result c.args.poly.now c.in_ok-image.image c.in_ok-image.ensures ∙ c.requires ∙ sym c.tables.ensures

pub digit_sums-requires-clause-values0 : goal.digit_sums-requires-clause-values0
digit_sums-requires-clause-values0 c =
    spectra-degree c.tables.result.now c.args.key.now.k0 c.values0.result.now (subst (λ (n : ℕ). AreSpectra n c.args.key.now.k0 c.values0.result.now) (sym c.tables.ensures) c.values0.ensures)

pub digit_sums-requires-clause-values1 : goal.digit_sums-requires-clause-values1
digit_sums-requires-clause-values1 c =
    spectra-degree c.tables.result.now c.args.key.now.k1 c.values1.result.now (subst (λ (n : ℕ). AreSpectra n c.args.key.now.k1 c.values1.result.now) (sym c.tables.ensures) c.values1.ensures)

pub returns-clause-first : goal.returns-clause-first
returns-clause-first c =
    let is : c.in_ok-image.image ≡ automorphism c.args.key.now.element c.args.poly.now = c.in_ok-image.ensures ∙ ap (λ (g : ℕ). automorphism g c.args.poly.now) c.element.ensures.value in
    IfOk-weaker c.digit_sums.result _ _ (λ sums h. h c.args.key.now.k0
    (subst (λ (n : ℕ). AreSpectra n c.args.key.now.k0 c.values0.result.now) (sym c.tables.ensures) c.values0.ensures)
    ∙ (λ t. residues_of q (c.tables.ensures t) (digit_sum (is t) c.args.key.now.k0))) c.digit_sums.ensures.first

pub returns-clause-second : goal.returns-clause-second
returns-clause-second c =
    let is : c.in_ok-image.image ≡ automorphism c.args.key.now.element c.args.poly.now = c.in_ok-image.ensures ∙ ap (λ (g : ℕ). automorphism g c.args.poly.now) c.element.ensures.value in
    IfOk-weaker c.digit_sums.result _ _ (λ sums h. h c.args.key.now.k1
    (subst (λ (n : ℕ). AreSpectra n c.args.key.now.k1 c.values1.result.now) (sym c.tables.ensures) c.values1.ensures)
    ∙ (λ t. residues_of q (c.tables.ensures t) (digit_sum (is t) c.args.key.now.k1))) c.digit_sums.ensures.second
