use Rattle.std.proofs.Common.{ℕ, ℤ, List, ◌≡◌, ◌∙◌, ◌+◌, ◌/◌, ◌≤◌, length, sym, ap, subst, arith}
use Rattle.rand_core.specs.Stream.{Stream}
use Rattle.co_math.specs.Coefficients.{IsDegree, signed_coefficients}
use Rattle.co_noise.specs.Shapes.{Numbers, levels}
use Rattle.co_math.specs.Logarithms.{log2_up}
use Rattle.co_noise.specs.Bounds.{HasRoom}
use Rattle.co_switch.specs.Keys.{Keys, AreKeys, AreGoodKeys, keys_degree}
use Rattle.co_switch.specs.Draws.{key_set_draw}
use Rattle.co_switch.proofs.Elements.{half_of, levels-le}
use Rattle.co_switch.proofs.Listing.{HasCounts, set_made, key_set_draw-AreKeys, key_set_draw-good, key_set_draw-counts}
use Rattle.co_switch.proofs.making.make_keys.Goals as goal

-- the levels of a tested shape of the secret's degree
few : (s : Numbers) (n : ℕ) (d : IsDegree n) → n ≡ s.degree → HasRoom s → levels s ≤ log2_up (n / 2) + 1
few s n d e room =
    let h = half_of s.degree (subst IsDegree e d) in
    let log : log2_up (n / 2) ≡ h.exponent = ap (λ m. log2_up (m / 2)) e ∙ h.log in
    omega (arith, levels-le s h room, log)

few_by_half : (s : Numbers) (n : ℕ) (d : IsDegree n) → n ≡ s.degree → HasRoom s → (h : ℕ) → log2_up (n / 2) ≡ h → levels s ≤ h + 1
few_by_half s n d e room h f = omega (arith, few s n d e room, f)

pub make_expansions-requires-clause-few : goal.make_expansions-requires-clause-few
make_expansions-requires-clause-few g c =
    let s = c.degree.ensures.secret in
    let l = few c.args.tested.now (length c.args.secret.now) s.degree c.requires c.shape-shape.ensures.room in
    let e : c.levels-levels.result ≡ levels c.args.tested.now = c.levels-levels.ensures.value ∙ ap levels c.shape-shape.ensures.value in
    let d : log2_up (length c.args.secret.now / 2) ≡ log2_up (c.degree-degree.result / 2) =
    ap (λ (m : ℕ). log2_up (m / 2)) (c.requires ∙ sym (c.degree-degree.ensures.value ∙ ap (λ (s : Numbers). s.degree) c.shape-shape.ensures.value)) in
    omega (arith, l, e, d)

pub from_parts-requires : goal.from_parts-requires
from_parts-requires g c =
    let s = c.degree.ensures.secret in
    let start = g.R.Rng.stream c.args.rng.now in
    let h = half_of (length c.args.secret.now) s.degree in
    let made = set_made c.args.secret.now (levels c.args.tested.now) c.levels-levels.result start (g.R.Rng.stream c.make_rotations.new.rng) (g.R.Rng.stream c.make_expansions.new.rng)
    c.make_rotations.new.keys.items c.make_expansions.new.keys.items (c.levels-levels.ensures.value ∙ ap levels c.shape-shape.ensures.value)
    c.in_ok-make_rotations.ensures.value c.in_ok-make_rotations.ensures.rest c.in_ok-make_expansions.ensures.value c.in_ok-make_expansions.ensures.rest in
    subst AreKeys (sym (ap (λ (p : Keys × Stream). p.0) made))
    (key_set_draw-AreKeys c.args.secret.now s.degree (levels c.args.tested.now) h (few_by_half c.args.tested.now (length c.args.secret.now) s.degree c.requires c.shape-shape.ensures.room h.exponent h.log) start)

pub returns-clause-value : goal.returns-clause-value
returns-clause-value g c =
    let made = set_made c.args.secret.now (levels c.args.tested.now) c.levels-levels.result (g.R.Rng.stream c.args.rng.now) (g.R.Rng.stream c.make_rotations.new.rng) (g.R.Rng.stream c.make_expansions.new.rng)
    c.make_rotations.new.keys.items c.make_expansions.new.keys.items (c.levels-levels.ensures.value ∙ ap levels c.shape-shape.ensures.value)
    c.in_ok-make_rotations.ensures.value c.in_ok-make_rotations.ensures.rest c.in_ok-make_expansions.ensures.value c.in_ok-make_expansions.ensures.rest in
    c.from_parts.ensures ∙ ap (λ (p : Keys × Stream). p.0) made

pub returns-clause-rest : goal.returns-clause-rest
returns-clause-rest g c =
    ap (λ (p : Keys × Stream). p.1)
    (set_made c.args.secret.now (levels c.args.tested.now) c.levels-levels.result (g.R.Rng.stream c.args.rng.now) (g.R.Rng.stream c.make_rotations.new.rng) (g.R.Rng.stream c.make_expansions.new.rng)
    c.make_rotations.new.keys.items c.make_expansions.new.keys.items (c.levels-levels.ensures.value ∙ ap levels c.shape-shape.ensures.value)
    c.in_ok-make_rotations.ensures.value c.in_ok-make_rotations.ensures.rest c.in_ok-make_expansions.ensures.value c.in_ok-make_expansions.ensures.rest)

pub returns-clause-good : goal.returns-clause-good
returns-clause-good g c =
    let s = c.degree.ensures.secret in
    let h = half_of (length c.args.secret.now) s.degree in
    subst (AreGoodKeys (signed_coefficients c.args.secret.now)) (sym (returns-clause-value g c))
    (key_set_draw-good c.args.secret.now s.degree (levels c.args.tested.now) h (few_by_half c.args.tested.now (length c.args.secret.now) s.degree c.requires c.shape-shape.ensures.room h.exponent h.log) (g.R.Rng.stream c.args.rng.now))

counts : (secret : List ℤ) (s : Numbers) (d : IsDegree (length secret)) → length secret ≡ s.degree → HasRoom s → (start : Stream) → HasCounts (length secret) (levels s) (key_set_draw secret (levels s) start).0
counts secret s d e room start = let h = half_of (length secret) d in key_set_draw-counts secret d (levels s) h (few_by_half s (length secret) d e room h.exponent h.log) start

pub make_rotations-requires-clause-degree : goal.make_rotations-requires-clause-degree
make_rotations-requires-clause-degree g c = subst IsDegree (sym c.degree-degree.ensures.value) c.degree-degree.ensures.ranges.degree

pub make_expansions-requires-clause-degree : goal.make_expansions-requires-clause-degree
make_expansions-requires-clause-degree g c = subst IsDegree (sym c.degree-degree.ensures.value) c.degree-degree.ensures.ranges.degree

pub returns-clause-degree : goal.returns-clause-degree
returns-clause-degree g c =
    let k = counts c.args.secret.now c.args.tested.now c.degree.ensures.secret.degree c.requires c.shape-shape.ensures.room (g.R.Rng.stream c.args.rng.now) in
    ap keys_degree (returns-clause-value g c) ∙ k.degree ∙ c.requires

pub returns-clause-rotations : goal.returns-clause-rotations
returns-clause-rotations g c =
    let k = counts c.args.secret.now c.args.tested.now c.degree.ensures.secret.degree c.requires c.shape-shape.ensures.room (g.R.Rng.stream c.args.rng.now) in
    ap (λ (x : Keys). length x.rotations) (returns-clause-value g c) ∙ k.rotations ∙ ap (λ (m : ℕ). log2_up (m / 2)) c.requires

pub returns-clause-expansions : goal.returns-clause-expansions
returns-clause-expansions g c =
    let k = counts c.args.secret.now c.args.tested.now c.degree.ensures.secret.degree c.requires c.shape-shape.ensures.room (g.R.Rng.stream c.args.rng.now) in
    ap (λ (x : Keys). length x.expansions) (returns-clause-value g c) ∙ k.expansions
