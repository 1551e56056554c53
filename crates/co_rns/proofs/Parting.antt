-- What a list of numbers modulo q tells of its residues modulo q1 and q2, and they of it.
use Rattle.std.proofs.Common.{◌≡◌, ℕ, ◌+◌, ◌<◌, sym, ap, subst, ◌∙◌, ⊎_elim, arith, List, [], ◌∷◌, ◌++◌, length, get_or}
use Rattle.std.proofs.lemmas.Bool.{cases_eq}
use Rattle.std.proofs.lemmas.Grind.{elements}
use Rattle.co_math.specs.Coefficients.{IsDegree}
use Rattle.co_ring.specs.declared.moduli.Modulus.{Modulus}
use Rattle.co_ring.specs.Moduli.{value_of}
use Rattle.co_ring.specs.Polynomials.{IsPolynomial}

-- numbers that are filled in one by one
pub record AreNumbers (f : ℕ → ℕ) (k : ℕ) (xs : List ℕ) : Type 0 where
  pub len : length xs ≡ k
  pub each : (j : ℕ) → j < k → get_or xs j 0 ≡ f j

pub more_numbers : (f : ℕ → ℕ) (k x : ℕ) (xs : List ℕ) → AreNumbers f k xs → x ≡ f k → AreNumbers f (k + 1) (xs ++ x ∷ [])
more_numbers f k x xs h e = record {
  len = grind (arith, elements);
  each = λ j u. ⊎_elim
      (λ g. last xs x j (g ∙ sym h.len) ∙ e ∙ ap f (sym g))
      (λ ne. front xs x j (omega (arith, u, ne, h.len)) ∙ h.each j (omega (arith, u, ne)))
      (cases_eq j k);
}
  where
    last : (xs : List ℕ) (x j : ℕ) → j ≡ length xs → get_or (xs ++ x ∷ []) j 0 ≡ x
    last xs x j e = grind (arith, elements)

    front : (xs : List ℕ) (x j : ℕ) → j < length xs → get_or (xs ++ x ∷ []) j 0 ≡ get_or xs j 0
    front xs x j l = grind (arith, elements)

-- numbers that are all below a modulus are a polynomial's
pub numbers_IsPolynomial : (modulus : Modulus) (f : ℕ → ℕ) (k n : ℕ) (xs : List ℕ) → IsDegree n → k ≡ n → ((j : ℕ) → f j < value_of modulus) → AreNumbers f k xs → IsPolynomial modulus xs
numbers_IsPolynomial modulus f k n xs d e small h = record {
  degree = subst IsDegree (sym (h.len ∙ e)) d;
  below = λ j u. subst (λ (r : ℕ). r < value_of modulus) (sym (h.each j (omega (arith, u, h.len)))) (small j);
}
