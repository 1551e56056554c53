use Rattle.std.proofs.Common.{ℕ, List, ◌≡◌, ◌+◌, ◌*◌, ◌<◌, ◌∙◌, refl, ap, subst, length, arith}
use Rattle.co_math.specs.Parameters.{digit_count}
use Rattle.co_math.specs.Coefficients.{coefficients}
use Rattle.co_rns.specs.Spectra.{PairValues, IsSpectrumOf}
use Rattle.co_switch.specs.Switches.{digit_polynomial}
use Rattle.co_switch.proofs.Spectral.{spectrum-len}
use Rattle.co_switch.proofs.Adding.{AreGathered, gathered_first, gathered_three, gathered_all}
use Rattle.co_switch.proofs.products.gather_digits.Goals as goal

pub loop-pass-init : goal.loop-pass-init
loop-pass-init c = record {
  digits_are = refl;
  low_degree = c.requires.room.low_degree;
  middle_degree = c.requires.room.middle_degree;
  high_degree = c.requires.room.high_degree;
  first = gathered_first c.args.tables.now c.args.room.now.digits c.args.values0.now c.args.sum0.now
      c.requires.none0;
  second = gathered_first c.args.tables.now c.args.room.now.digits c.args.values1.now c.args.sum1.now
      c.requires.none1;
}

pub digit_values-requires-clause-room : goal.digit_values-requires-clause-room
digit_values-requires-clause-room c = record {
  digits_degree = ap length c.loop-pass.invariant.digits_are ∙ c.requires.room.digits_degree;
  low_degree = c.loop-pass.invariant.low_degree;
  middle_degree = c.loop-pass.invariant.middle_degree;
  high_degree = c.loop-pass.invariant.high_degree;
}

pub loop-pass-preserved : goal.loop-pass-preserved
loop-pass-preserved c =
    let n = c.args.tables.now in
    let poly = c.args.room.now.digits in
    let i = 3 * c.loop-pass.pass in
    let h = c.loop-pass.invariant in
    let given = c.digit_values.ensures in
    let low = c.digit_values.new.room.low in
    let middle = c.digit_values.new.room.middle in
    let high = c.digit_values.new.room.high in
    let spectrum = λ (j : ℕ) (v : PairValues) (s : IsSpectrumOf n
    (coefficients (digit_polynomial j c.loop-pass.room.digits)) v).
    subst (λ (xs : List ℕ). IsSpectrumOf n (coefficients (digit_polynomial j xs)) v)
    h.digits_are s in
    let u = spectrum i low given.low in
    let v = spectrum (i + 1) middle given.middle in
    let w = spectrum (i + 2) high given.high in
    let up : i + 3 ≡ 3 * (c.loop-pass.pass + 1) = omega arith in
    let inside : i + 2 < digit_count = omega (arith, c.loop-pass-test.true) in
    record {
      digits_are = given.same ∙ h.digits_are;
      low_degree = spectrum-len n (coefficients (digit_polynomial i poly)) low u;
      middle_degree = spectrum-len n (coefficients (digit_polynomial (i + 1) poly)) middle v;
      high_degree = spectrum-len n (coefficients (digit_polynomial (i + 2) poly)) high w;
      first = subst (λ (k : ℕ). AreGathered n k poly c.args.values0.now c.add_three.new.sum) up
          (gathered_three n i poly c.args.values0.now c.loop-pass.sum0 c.add_three.new.sum
          low middle high low c.requires.degree c.requires.room.digits_degree inside h.first u v w
          (c.add_three.ensures low));
      second = subst (λ (k : ℕ). AreGathered n k poly c.args.values1.now
          c.add_three-in-loop-pass.new.sum) up
          (gathered_three n i poly c.args.values1.now c.loop-pass.sum1
          c.add_three-in-loop-pass.new.sum low middle high low c.requires.degree
          c.requires.room.digits_degree inside h.second u v w (c.add_three-in-loop-pass.ensures low));
    }

pub returns-clause-first : goal.returns-clause-first
returns-clause-first c ks v =
    let done : 3 * c.loop-pass.pass ≡ digit_count = omega arith in
    gathered_all c.args.tables.now (3 * c.loop-pass.pass) c.args.room.now.digits c.args.values0.now
    c.loop-pass.sum0 ks c.loop-pass.invariant.first done v

pub returns-clause-second : goal.returns-clause-second
returns-clause-second c ks v =
    let done : 3 * c.loop-pass.pass ≡ digit_count = omega arith in
    gathered_all c.args.tables.now (3 * c.loop-pass.pass) c.args.room.now.digits c.args.values1.now
    c.loop-pass.sum1 ks c.loop-pass.invariant.second done v
