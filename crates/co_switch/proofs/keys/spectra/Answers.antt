use Rattle.std.proofs.Common.{ℕ, List, ◌≡◌, ◌∙◌, [], length, ap, subst, arith}
use Rattle.std.proofs.lemmas.List.{get_or_read}
use Rattle.std.proofs.lemmas.List.Elements.{All-get_or}
use Rattle.co_math.specs.Coefficients.{coefficients}
use Rattle.co_rns.specs.Spectra.{IsSpectrumOf}
use Rattle.co_switch.proofs.Spectral.{spectrum-len, one_more, all_done}
use Rattle.co_switch.proofs.keys.spectra.Goals as goal

pub to_spectrum-requires : goal.to_spectrum-requires
to_spectrum-requires c =
    let polynomials = c.args.polynomials.now in
    let i = c.loop-index.index in
    record {
      pair_degree = ap length (get_or_read polynomials i c.index-polynomials-index.result (c.loop-index-test.true) c.index-polynomials-index.is [])
          ∙ All-get_or (λ (p : List ℕ). length p ≡ c.args.tables.now) polynomials i [] (c.loop-index-test.true) c.requires.one_degree;
      into_degree = spectrum-len c.degree.result _ c.in_ok-value.value c.in_ok-value.ensures ∙ c.degree.ensures;
    }

pub loop-index-preserved : goal.loop-index-preserved
loop-index-preserved c =
    let polynomials = c.args.polynomials.now in
    let i = c.loop-index.index in
    let read = get_or_read polynomials i c.index-polynomials-index.result (c.loop-index-test.true) c.index-polynomials-index.is [] in
    one_more c.args.tables.now i polynomials c.loop-index.values.items c.push.new.self.items c.to_spectrum.new.into c.loop-index.invariant c.in_ok-push.ensures.items
    (subst (λ (p : List ℕ). IsSpectrumOf c.args.tables.now (coefficients p) c.to_spectrum.new.into) read c.to_spectrum.ensures)

pub returns : goal.returns
returns c = all_done c.args.tables.now c.loop-index.index c.args.polynomials.now c.loop-index.values.items c.loop-index.invariant (omega arith) c.requires.count c.requires.one_degree
