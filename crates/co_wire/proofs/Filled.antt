-- A polynomial that is read coefficient by coefficient.
use Rattle.std.proofs.Common.{◌≡◌, ℕ, ◌+◌, ◌*◌, ◌<◌, List, length, length-set, get_or, set, get_or-set_same, get_or-set_other, sym, ap, ◌∙◌, inl, inr, arith}
use Rattle.std.proofs.lemmas.Bool.{cases_eq}
use Rattle.co_ring.specs.Polynomials.{Polynomial}
use Rattle.co_ring.specs.declared.moduli.Modulus.TheVariants.{First, Second}
use Rattle.co_wire.specs.Bodies.{residue_at}
use Rattle.co_wire.specs.Parts.{AreInRangeTo}
use Rattle.co_wire.proofs.Fronts.{range-at}

-- the first k coefficients have their residues
pub record ArePut (n : ℕ) (body : List ℕ) (from k : ℕ) (first second : Polynomial) : Type 0 where
  pub first_modulus_is : first.modulus ≡ First
  pub second_modulus_is : second.modulus ≡ Second
  pub first_degree : length first.coeffs ≡ n
  pub second_degree : length second.coeffs ≡ n
  pub first_put : (j : ℕ) → j < k → get_or first.coeffs j 0 ≡ residue_at body (from + 2 * j)
  pub second_put : (j : ℕ) → j < k → get_or second.coeffs j 0 ≡ residue_at body (from + 2 * j + 1)
  pub in_range : AreInRangeTo body (from + 2 * k)

one-put : (f : ℕ → ℕ) (xs : List ℕ) (k r : ℕ) → k < length xs → ((j : ℕ) → j < k → get_or xs j 0 ≡ f j) → r ≡ f k → (j : ℕ) → j < k + 1 → get_or (set xs k r) j 0 ≡ f j
one-put f xs k r within before is j below = elim (cases_eq j k) [
  | inl same ↦ ap (λ (i : ℕ). get_or (set xs k r) i 0) same ∙ get_or-set_same xs k r 0 within ∙ is ∙ ap f (sym same)
  | inr other ↦ get_or-set_other xs k j r 0 other ∙ before j (omega arith)
]

pub more-put : (n : ℕ) (body : List ℕ) (from k : ℕ) (first second first' second' : Polynomial) (r s : ℕ) → ArePut n body from k first second → k < n
    → first' ≡ record first { coeffs = set first.coeffs k r } → second' ≡ record second { coeffs = set second.coeffs k s } → r ≡ residue_at body (from + 2 * k) → s ≡ residue_at body (from + 2 * k + 1)
    → AreInRangeTo body (from + 2 * k + 1 + 1) → ArePut n body from (k + 1) first' second'
more-put n body from k first second first' second' r s h l e f a b range =
    let first_is : first'.coeffs ≡ set first.coeffs k r = ap (λ (p : Polynomial). p.coeffs) e in
    let second_is : second'.coeffs ≡ set second.coeffs k s = ap (λ (p : Polynomial). p.coeffs) f in
    record {
      first_modulus_is = ap (λ (p : Polynomial). p.modulus) e ∙ h.first_modulus_is;
      second_modulus_is = ap (λ (p : Polynomial). p.modulus) f ∙ h.second_modulus_is;
      first_degree = ap length first_is ∙ length-set first.coeffs k r ∙ h.first_degree;
      second_degree = ap length second_is ∙ length-set second.coeffs k s ∙ h.second_degree;
      first_put = λ j below. ap (λ (xs : List ℕ). get_or xs j 0) first_is ∙ one-put (λ i. residue_at body (from + 2 * i)) first.coeffs k r (omega (arith, h.first_degree, l)) h.first_put a j below;
      second_put = λ j below. ap (λ (xs : List ℕ). get_or xs j 0) second_is ∙ one-put (λ i. residue_at body (from + 2 * i + 1)) second.coeffs k s (omega (arith, h.second_degree, l)) h.second_put b j below;
      in_range = range-at body (from + 2 * k + 1 + 1) (from + 2 * (k + 1)) (omega arith) range;
    }
