use Rattle.std.proofs.Common.{List, ℕ, sym, subst, ◌∙◌, refl, arith}
use Rattle.co_math.specs.Parameters.{digit_base}
use Rattle.co_rns.specs.Residue_pairs.{AreDigits, all_composed}
use Rattle.co_rns.proofs.Wholes.{split_of, one_length, value_degree, digits_pair, digits_whole}
use Rattle.co_rns.proofs.pairs.Pair.digit.Goals as goal

pub write_digits-requires-clause-into_first_degree : goal.write_digits-requires-clause-into_first_degree
write_digits-requires-clause-into_first_degree c = one_length (split_of c.self.inside.first c.self.inside.second c.self.invariant c.self.view_is) (split_of c.into.inside.first c.into.inside.second c.into.invariant c.into.view_is) c.requires.one_degree

pub write_digits-requires-clause-into_second_degree : goal.write_digits-requires-clause-into_second_degree
write_digits-requires-clause-into_second_degree c =
    let s = split_of c.self.inside.first c.self.inside.second c.self.invariant c.self.view_is in
    let r = split_of c.into.inside.first c.into.inside.second c.into.invariant c.into.view_is in
    r.second_length ∙ c.requires.one_degree ∙ sym s.first_length

pub invariant_of-into : goal.invariant_of-into
invariant_of-into c =
    let cs = all_composed c.self.inside.first.coeffs c.self.inside.second.coeffs in
    let d = c.write_digits.ensures in
    digits_pair digit_base c.args.index cs c.write_digits.new.into_first c.write_digits.new.into_second (omega arith) (omega arith) d.first_modulus_after d.second_modulus_after
    (value_degree c.self.inside.first c.self.inside.second c.self.invariant cs refl) d.first_digits d.second_digits

pub returns : goal.returns
returns c =
    let xs = c.write_digits.new.into_first.coeffs in
    let ys = c.write_digits.new.into_second.coeffs in
    subst (λ (v : List ℕ). AreDigits digit_base c.args.index v (all_composed xs ys)) c.self.view_is
    (digits_whole digit_base c.args.index (all_composed c.self.inside.first.coeffs c.self.inside.second.coeffs) xs ys (omega arith) (omega arith) c.write_digits.ensures.first_digits c.write_digits.ensures.second_digits)
