use Rattle.std.proofs.Common.{ℕ, length, ◌≡◌, ◌+◌, arith, refl, ap, subst, sym, ◌∙◌, set}
use Rattle.std.proofs.Math.ListN.{length-set}
use Rattle.co_ring.specs.Polynomials.{Polynomial}
use Rattle.co_rns.specs.Residue_pairs.{composed}
use Rattle.co_rns.proofs.Wholes.{split_back}
use Rattle.co_bfv.specs.Draws.{drawn, coefficient_draw, uniform_draw}
use Rattle.co_bfv.proofs.Drawn.{AreParts, rest-drawn, list-drawn, one_more_part, all_parts}
use Rattle.co_bfv.proofs.draws.sample_uniform.Goals as goal

pub loop-k-preserved : goal.loop-k-preserved
loop-k-preserved g c =
    let start = g.R.Rng.stream c.args.rng.now in
    let s = g.R.Rng.stream c.loop-k.rng in
    let t = g.R.Rng.stream c.coefficient-x.new.rng in
    let i = c.loop-k.invariant in
    let k = c.loop-k.k in
    let p = c.coefficient-x.result in
    let x = composed p.0 p.1 in
    let d = c.coefficient-x.ensures.drawn in
    let us = c.loop-k.first.coeffs in
    let vs = c.loop-k.second.coeffs in
    let a : c.set.new.self.coeffs ≡ set us k p.0 = ap (λ (r : Polynomial). r.coeffs) c.set.ensures in
    let b : c.set-in-loop-k.new.self.coeffs ≡ set vs k p.1 = ap (λ (r : Polynomial). r.coeffs) c.set-in-loop-k.ensures in
    record {
      first_modulus = ap (λ (r : Polynomial). r.modulus) c.set.ensures ∙ i.first_modulus;
      second_modulus = ap (λ (r : Polynomial). r.modulus) c.set-in-loop-k.ensures ∙ i.second_modulus;
      first_degree = ap length a ∙ simp length-set i.first_degree;
      second_degree = ap length b ∙ simp length-set i.second_degree;
      rest = rest-drawn coefficient_draw k start s t x i.rest d;
      parts = one_more_part k x p.0 p.1 (drawn coefficient_draw k start).0 us vs (drawn coefficient_draw (k + 1) start).0 c.set.new.self.coeffs c.set-in-loop-k.new.self.coeffs
          i.parts (omega (arith, i.first_degree, c.get-k-end.ensures.value)) (omega (arith, i.second_degree, c.get-k-end.ensures.value)) refl (list-drawn coefficient_draw k start s t x i.rest d) a b;
    }

pub returns-clause-value : goal.returns-clause-value
unfolding uniform_draw
returns-clause-value g c =
    let start = g.R.Rng.stream c.args.rng.now in
    let i = c.loop-k.invariant in
    let p = c.from_parts.ensures in
    let all : c.loop-k.k ≡ c.args.degree = omega (arith, c.get-k-end.ensures.value) in
    let us = c.loop-k.first.coeffs in
    let vs = c.loop-k.second.coeffs in
    let parts : AreParts c.args.degree (drawn coefficient_draw c.args.degree start).0 us vs = subst (λ (k : ℕ). AreParts k (drawn coefficient_draw k start).0 us vs) all i.parts in
    sym (split_back c.from_parts.result us vs p.whole.below p.first_residues p.second_residues)
    ∙ all_parts c.args.degree (drawn coefficient_draw c.args.degree start).0 us vs parts i.first_degree i.second_degree

pub returns-clause-rest : goal.returns-clause-rest
unfolding uniform_draw
returns-clause-rest g c =
    let start = g.R.Rng.stream c.args.rng.now in
    let all : c.loop-k.k ≡ c.args.degree = omega (arith, c.get-k-end.ensures.value) in
    c.loop-k.invariant.rest ∙ ap (λ (k : ℕ). (drawn coefficient_draw k start).1) all
