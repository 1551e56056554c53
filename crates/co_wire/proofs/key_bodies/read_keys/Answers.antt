use Rattle.std.proofs.Common.{◌≡◌, ◌∙◌, ◌/◌, ℕ, refl, ap, subst, arith}
use Rattle.co_math.specs.Coefficients.{IsDegree}
use Rattle.co_math.specs.Logarithms.{log2_up}
use Rattle.co_noise.specs.Shapes.{Numbers, levels}
use Rattle.co_wire.proofs.Keyed.{few_levels}
use Rattle.co_wire.proofs.key_bodies.read_keys.Goals as goal

pub read_set-requires-clause-few : goal.read_set-requires-clause-few
read_set-requires-clause-few c =
    let s = c.args.tested.now in
    let shape = c.shape-shape.ensures.value in
    let turns : c.log2_up-turns.result ≡ log2_up (s.degree / 2) = c.log2_up-turns.ensures.value ∙ ap (λ (m : ℕ). log2_up (m / 2)) (c.degree-2.ensures.value ∙ ap (λ (s : Numbers). s.degree) shape) in
    let more : c.levels.result ≡ levels s = c.levels.ensures.value ∙ ap levels shape in
    let few = few_levels s s.degree refl (subst IsDegree (ap (λ (s : Numbers). s.degree) shape) c.degree.ensures.ranges.degree) c.shape-shape.ensures.room in
    omega (arith, few, more, turns)
