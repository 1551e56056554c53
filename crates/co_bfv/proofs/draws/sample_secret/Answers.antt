use Rattle.std.proofs.lemmas.Int.{to_z-of_z}
use Rattle.co_math.specs.Coefficients.{IsDegree}
use Rattle.std.proofs.Common.{w8, ◌<◌, ℕ, ℤ, List, ◌≡◌, arith, ap, subst, sym, ◌∙◌, ◌+◌, ◌++◌, ◌∷◌, []}
use Rattle.rand_core.specs.Stream.{Stream}
use Rattle.co_bfv.specs.Draws.{drawn, ternary_draw, secret_draw}
use Rattle.co_bfv.proofs.Drawn.{AreSmall, drawn-more, one_small}
use Rattle.co_bfv.proofs.draws.sample_secret.Goals as goal

pub returns-clause-value : goal.returns-clause-value
unfolding secret_draw
returns-clause-value g c =
    let s = g.R.Rng.stream c.args.rng.now in
    let all : c.loop-i.i ≡ c.args.degree = omega (arith, c.get-i-end.ensures.value) in
    c.in_ok-from_coeffs.ensures ∙ ap (λ (p : List ℤ × Stream). p.0) (c.loop-i.invariant.so_far ∙ ap (λ (k : ℕ). drawn ternary_draw k s) all)

pub returns-clause-rest : goal.returns-clause-rest
unfolding secret_draw
returns-clause-rest g c =
    let s = g.R.Rng.stream c.args.rng.now in
    let all : c.loop-i.i ≡ c.args.degree = omega (arith, c.get-i-end.ensures.value) in
    ap (λ (p : List ℤ × Stream). p.1) (c.loop-i.invariant.so_far ∙ ap (λ (k : ℕ). drawn ternary_draw k s) all)

pub loop-i-preserved : goal.loop-i-preserved
loop-i-preserved g c =
    let s = g.R.Rng.stream c.args.rng.now in
    let x = c.ternary.result in
    let i = c.loop-i.invariant in
    let more : c.push.new.self.items ≡ c.loop-i.coeffs.items ++ x ∷ [] = c.in_ok-push.ensures.items ∙ ap (λ v. c.loop-i.coeffs.items ++ v ∷ []) (to_z-of_z w8 x (record { sfits = c.ternary.type_inv })) in
    record {
      so_far = ap (λ v. (v, g.R.Rng.stream c.ternary.new.rng)) more
          ∙ drawn-more ternary_draw c.loop-i.i s (g.R.Rng.stream c.loop-i.rng) (g.R.Rng.stream c.ternary.new.rng) c.loop-i.coeffs.items x i.so_far c.ternary.ensures.drawn;
      small = subst (AreSmall (c.loop-i.i + 1) 1) (sym more) (one_small c.loop-i.i 1 x c.loop-i.coeffs.items i.small c.ternary.ensures.small);
    }

pub from_coeffs-requires : goal.from_coeffs-requires
from_coeffs-requires g c =
    let all : c.loop-i.i ≡ c.args.degree = omega (arith, c.get-i-end.ensures.value, c.loop-i-test.false, c.loop-i.auto.i-end) in
    let small = subst (λ k. AreSmall k 1 c.loop-i.coeffs.items) all c.loop-i.invariant.small in
    record { small = record { degree = subst IsDegree (sym small.len) (subst IsDegree c.get.ensures.value c.get.ensures.valid); small = λ j l. small.each j (subst (λ n. j < n) small.len l) }; one_degree = small.len }
