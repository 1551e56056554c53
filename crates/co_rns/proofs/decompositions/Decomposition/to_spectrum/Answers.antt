use Rattle.std.proofs.Common.{◌≡◌, ℕ, List, length, sym, ap, subst, ◌∙◌, arith}
use Rattle.co_math.specs.Coefficients.{coefficients, AreBelow}
use Rattle.co_math.specs.Parameters.{first_modulus, digit_base}
use Rattle.co_ring.proofs.Keeping.{written_back}
use Rattle.co_rns.specs.Residue_pairs.{AreDigits}
use Rattle.co_rns.specs.Spectra.{IsSpectrumOf}
use Rattle.co_rns.proofs.Digits.{digits_small, one_digits}
use Rattle.co_rns.proofs.decompositions.Decomposition.to_spectrum.Goals as goal

pub digits_of-requires-clause-into_degree : goal.digits_of-requires-clause-into_degree
digits_of-requires-clause-into_degree c = ap length c.deref_mut.ensures.value ∙ c.self.invariant.one_degree ∙ sym (ap length c.deref.ensures.value)

pub small_to_spectrum-requires-clause-one_degree : goal.small_to_spectrum-requires-clause-one_degree
small_to_spectrum-requires-clause-one_degree c =
    let t = c.self.inside in
    let one : length c.deref_mut.result.now ≡ length c.deref.result.now = ap length c.deref_mut.ensures.value ∙ c.self.invariant.one_degree ∙ sym (ap length c.deref.ensures.value) in
    let ys = c.digits_of.new.into in
    let back : c.deref-2.result.now ≡ ys = c.deref-2.ensures.value ∙ written_back t.digits.len t.digits.items ys (c.digits_of.ensures.len ∙ sym one ∙ c.deref_mut.ensures.len) in
    ap length back ∙ c.digits_of.ensures.len ∙ ap length c.deref.ensures.value ∙ ap length c.self.view_is ∙ c.requires.degree

pub small_to_spectrum-requires-clause-small : goal.small_to_spectrum-requires-clause-small
small_to_spectrum-requires-clause-small c =
    let t = c.self.inside in
    let one : length c.deref_mut.result.now ≡ length c.deref.result.now = ap length c.deref_mut.ensures.value ∙ c.self.invariant.one_degree ∙ sym (ap length c.deref.ensures.value) in
    let ys = c.digits_of.new.into in
    let back : c.deref-2.result.now ≡ ys = c.deref-2.ensures.value ∙ written_back t.digits.len t.digits.items ys (c.digits_of.ensures.len ∙ sym one ∙ c.deref_mut.ensures.len) in
    subst (λ (xs : List ℕ). AreBelow first_modulus xs) (sym back) (digits_small c.args.index first_modulus c.deref.result.now ys (omega arith) c.digits_of.ensures)

pub invariant_of-self : goal.invariant_of-self
invariant_of-self c =
    let t = c.self.inside in
    let one : length c.deref_mut.result.now ≡ length c.deref.result.now = ap length c.deref_mut.ensures.value ∙ c.self.invariant.one_degree ∙ sym (ap length c.deref.ensures.value) in
    let ys = c.digits_of.new.into in
    let back : c.deref-2.result.now ≡ ys = c.deref-2.ensures.value ∙ written_back t.digits.len t.digits.items ys (c.digits_of.ensures.len ∙ sym one ∙ c.deref_mut.ensures.len) in
    record {
      whole = c.self.invariant.whole;
      one_degree = ap length (sym c.deref-2.ensures.value ∙ back) ∙ c.digits_of.ensures.len ∙ ap length c.deref.ensures.value;
    }

pub returns-clause-values : goal.returns-clause-values
returns-clause-values c = λ ds h.
    let t = c.self.inside in
    let one : length c.deref_mut.result.now ≡ length c.deref.result.now = ap length c.deref_mut.ensures.value ∙ c.self.invariant.one_degree ∙ sym (ap length c.deref.ensures.value) in
    let ys = c.digits_of.new.into in
    let back : c.deref-2.result.now ≡ ys = c.deref-2.ensures.value ∙ written_back t.digits.len t.digits.items ys (c.digits_of.ensures.len ∙ sym one ∙ c.deref_mut.ensures.len) in
    let own : AreDigits digit_base c.args.index c.args.self.now ys = subst (λ (cs : List ℕ). AreDigits digit_base c.args.index cs ys) (c.deref.ensures.value ∙ c.self.view_is) c.digits_of.ensures in
    subst (λ (xs : List ℕ). IsSpectrumOf c.args.tables.now (coefficients xs) c.small_to_spectrum.new.into) (back ∙ one_digits c.args.index c.args.self.now ys ds own h) c.small_to_spectrum.ensures
