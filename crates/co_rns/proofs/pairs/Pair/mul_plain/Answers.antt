use Rattle.std.proofs.Common.{ℕ, ◌<◌, sym, subst, ◌∙◌, length, arith}
use Rattle.co_math.specs.Parameters.{first_modulus, second_modulus}
use Rattle.co_math.proofs.Degrees.{degree_positive}
use Rattle.co_rns.proofs.Centring.{centred_agree}
use Rattle.co_rns.proofs.Wholes.{split_of, product_result}
use Rattle.co_rns.proofs.pairs.Pair.mul_plain.Goals as goal

pub mul-requires-clause-one_degree : goal.mul-requires-clause-one_degree
mul-requires-clause-one_degree c = let s = split_of c.self.inside.first c.self.inside.second c.self.invariant c.self.view_is in c.in_ok-first.ensures.coeffs.len ∙ c.requires.one_degree ∙ sym s.first_length

pub mul-requires-2-clause-one_degree : goal.mul-requires-2-clause-one_degree
mul-requires-2-clause-one_degree c = let s = split_of c.self.inside.first c.self.inside.second c.self.invariant c.self.view_is in c.in_ok-second.ensures.coeffs.len ∙ c.requires.one_degree ∙ sym s.second_length

pub returns : goal.returns
returns c =
    let s = split_of c.self.inside.first c.self.inside.second c.self.invariant c.self.view_is in
    let p = c.args.plain.now.coeffs in
    let z : 0 < length p = subst (λ (n : ℕ). 0 < n) (sym c.requires.one_degree) (degree_positive _ s.whole_value.degree) in
    (product_result s _ _ _ _ _ c.in_ok-mul.ensures c.in_ok-mul-2.ensures
    (centred_agree first_modulus p c.in_ok-first.first.coeffs (omega arith) z c.in_ok-first.ensures.coeffs)
    (centred_agree second_modulus p c.in_ok-second.second.coeffs (omega arith) z c.in_ok-second.ensures.coeffs)).residues
