-- The steps and the units of a score.
use Rattle.std.proofs.Common.{◌≡◌, ℕ, zero, suc, ◌+◌, ◌-◌, ◌*◌, ◌/◌, ◌^◌, ◌<◌, ◌≤◌, sym, ap, subst, ◌∙◌, arith, length}
use Rattle.std.proofs.lemmas.Nat.{pow_pos}
use Rattle.std.proofs.Math.Nat.{mul-le-mul_left, pow-le-pow_right}
use Rattle.co_math.specs.Coefficients.{IsDegree}
use Rattle.co_board.specs.Once.{sum_below}
use Rattle.co_board.proofs.Counts.{sum_below-constant}
use Rattle.co_switch.specs.Keys.{Keys, keys_degree}
use Rattle.co_switch.specs.Steps.{raised, HasRisen}
use Rattle.co_switch.proofs.Rising.{raised-le, raised-raised, risen_more}
use Rattle.co_rot.specs.Subtrees.{crown_bits, subtree_bits}
use Rattle.co_matvec.specs.Weights.{WeightMatrix, keyword_blocks}
use Rattle.co_matvec.specs.Units.{unit_count}
use Rattle.co_matvec.proofs.Walking.{subtree_rotations}

-- crowns and subtrees together take a step for each rotation but the first of each block
steps-shape : (blocks count size : ℕ) → 0 < count → 0 < size → blocks * (count - 1) + blocks * count * (size - 1) ≡ blocks * (count * size - 1)
steps-shape blocks count size z y =
    let e : count ≡ count - 1 + 1 = omega arith in
    let f : size ≡ size - 1 + 1 = omega arith in
    let whole : count * size - 1 ≡ count - 1 + count * (size - 1) = less count (size - 1) size f z in
    sym (ap (λ x. blocks * x) whole ∙ spread blocks (count - 1) count (size - 1))
  where
    less : (c s t : ℕ) → t ≡ s + 1 → 0 < c → c * t - 1 ≡ c - 1 + c * s
    less c s t e z = let g : c * t ≡ c * s + c = ap (λ x. c * x) e ∙ more c s in omega arith
      where
        more : (c s : ℕ) → c * (s + 1) ≡ c * s + c
        more c s = omega arith

    spread : (b x c s : ℕ) → b * (x + c * s) ≡ b * x + b * c * s
    spread b x c s = omega arith

module _ (w : WeightMatrix) (keys : Keys) (kn : keys_degree keys ≡ w.degree) where
  steps_sum : keyword_blocks w * (2 ^ crown_bits keys - 1) + unit_count w keys * (2 ^ subtree_bits keys - 1) ≡ keyword_blocks w * (w.degree / 2 - 1)
  steps_sum =
      steps-shape (keyword_blocks w) (2 ^ crown_bits keys) (2 ^ subtree_bits keys) (pow_pos (crown_bits keys)) (pow_pos (subtree_bits keys))
      ∙ ap (λ x. keyword_blocks w * (x - 1)) (subtree_rotations keys w.degree kn)

  -- the crowns, and then the units
  pub all_steps : (start roots now : ℕ) → roots ≡ raised start (keyword_blocks w * (2 ^ crown_bits keys - 1)) → now ≡ raised roots (sum_below (unit_count w keys) (λ i. 2 ^ subtree_bits keys - 1))
      → now ≡ raised start (keyword_blocks w * (w.degree / 2 - 1))
  all_steps start roots now e f =
      f ∙ (λ t. raised (e t) (sum_below-constant (unit_count w keys) (2 ^ subtree_bits keys - 1) t))
      ∙ raised-raised start (keyword_blocks w * (2 ^ crown_bits keys - 1)) (unit_count w keys * (2 ^ subtree_bits keys - 1)) ∙ ap (raised start) steps_sum

  pub crowns_risen : (start now : ℕ) → HasRisen start (keyword_blocks w * (2 ^ crown_bits keys - 1)) now → HasRisen start (keyword_blocks w * (w.degree / 2 - 1)) now
  crowns_risen start now h = let less = raised-le start (keyword_blocks w * (2 ^ crown_bits keys - 1)) (keyword_blocks w * (w.degree / 2 - 1)) (omega (arith, steps_sum)) in
      record { at_least = h.at_least; at_most = omega (arith, h.at_most, less) }

  pub units_risen : (start roots now : ℕ) → roots ≡ raised start (keyword_blocks w * (2 ^ crown_bits keys - 1)) → HasRisen roots (sum_below (unit_count w keys) (λ i. 2 ^ subtree_bits keys - 1)) now
      → HasRisen start (keyword_blocks w * (w.degree / 2 - 1)) now
  units_risen start roots now e h =
      risen_more start (keyword_blocks w * (2 ^ crown_bits keys - 1)) (unit_count w keys * (2 ^ subtree_bits keys - 1)) (keyword_blocks w * (w.degree / 2 - 1)) now
      (subst (λ (x : ℕ). HasRisen x (unit_count w keys * (2 ^ subtree_bits keys - 1)) now) e (subst (λ (x : ℕ). HasRisen roots x now) (sum_below-constant (unit_count w keys) (2 ^ subtree_bits keys - 1)) h))
      (omega (arith, steps_sum))

  -- units can be numbered by 32 bits
  pub units_fit : IsDegree w.degree → keyword_blocks w * (w.degree / 2) ≤ 2 ^ 32 + w.degree / 2 → unit_count w keys ≤ 2 ^ 32
  units_fit d few =
      let whole = ap (λ x. keyword_blocks w * x) (subtree_rotations keys w.degree kn) in
      let most = pow-le-pow_right {n = 2} (omega arith) d.most in
      let half : w.degree / 2 ≤ 2048 = omega (arith, d.is, most) in
      settled (keyword_blocks w) (2 ^ crown_bits keys) (2 ^ subtree_bits keys) (w.degree / 2) whole two half few
    where
      two : 2 ≤ 2 ^ subtree_bits keys
      two = let h : 2 ^ 1 ≤ 2 ^ subtree_bits keys = pow-le-pow_right {n = 2} (omega arith) some_bits in omega (arith, h)
        where
          some_bits : 1 ≤ subtree_bits keys
          some_bits = above (length keys.rotations) w.degree d kn
            where
              above : (b n : ℕ) → IsDegree n → 2 * 2 ^ b ≡ n → 1 ≤ b - b / 2
              above zero n d e = let least = pow-le-pow_right {n = 2} (omega arith) d.least in absurd (omega (arith, d.is, least))
              above (suc b) n d e = omega arith

      settled : (k c s h : ℕ) → k * (c * s) ≡ k * h → 2 ≤ s → h ≤ 2048 → k * h ≤ 2 ^ 32 + h → k * c ≤ 2 ^ 32
      settled k c s h e pair half few = let m = mul-le-mul_left (k * c) pair in let g = grouped k c s in omega arith
        where
          grouped : (k c s : ℕ) → k * c * s ≡ k * (c * s)
          grouped k c s = omega arith
