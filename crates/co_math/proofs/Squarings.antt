-- A power by repeated squaring.
use Rattle.std.proofs.Common.{◌≡◌, ℕ, suc, ◌*◌, ◌/◌, ◌%◌, ◌<◌, ◌≤◌, sym, ap, ◌∙◌, arith, ℤ, pos, ◌*ℤ◌}
use Rattle.co_math.specs.Residues.{residue, Congruent}
use Rattle.co_math.specs.Powers.{power}
use Rattle.co_math.proofs.Integers.{expand, one-mul, mul-one}
use Rattle.co_math.proofs.Residues.{cong-refl, cong_from, cong-trans, cong-mul}
use Rattle.co_math.proofs.Powers.{power-suc, power-zero, power-mul, power-congruent}
use Rattle.co_math.proofs.Reduced.{reduced_as, residue_of}

two : (x : ℤ) → power x 2 ≡ x *ℤ x
two x = power-suc x 1 ∙ ap (λ t. t *ℤ x) (power-suc x 0 ∙ ap (λ t. t *ℤ x) (power-zero x) ∙ one-mul x)

even : (x : ℤ) (n : ℕ) → n % 2 ≡ 0 → power x n ≡ power (x *ℤ x) (n / 2)
even x n e = let d : n ≡ 2 * (n / 2) = omega arith in ap (power x) d ∙ power-mul x 2 (n / 2) ∙ ap (λ t. power t (n / 2)) (two x)

odd : (x : ℤ) (n : ℕ) → n % 2 ≡ 1 → power x n ≡ power (x *ℤ x) (n / 2) *ℤ x
odd x n e =
    let d : n ≡ suc (2 * (n / 2)) = omega arith in
    ap (power x) d ∙ power-suc x (2 * (n / 2)) ∙ ap (λ t. t *ℤ x) (power-mul x 2 (n / 2) ∙ ap (λ t. power t (n / 2)) (two x))

pub squared_even : (m f s n s₂ : ℕ) (w : ℤ) → 0 < m → Congruent m (pos f *ℤ power (pos s) n) w → n % 2 ≡ 0 → s₂ ≡ residue m (pos s *ℤ pos s)
    → Congruent m (pos f *ℤ power (pos s₂) (n / 2)) w
squared_even m f s n s₂ w p c e g =
    cong-trans m (cong-mul m (cong-refl m (pos f)) (cong-trans m (power-congruent m (residue_of m s₂ (pos s *ℤ pos s) p g) (n / 2)) (cong_from m (sym (even (pos s) n e))))) c

pub squared_odd : (m f s n f₂ s₂ : ℕ) (w : ℤ) → 0 < m → Congruent m (pos f *ℤ power (pos s) n) w → n % 2 ≡ 1 → f₂ ≡ residue m (pos f *ℤ pos s) → s₂ ≡ residue m (pos s *ℤ pos s)
    → Congruent m (pos f₂ *ℤ power (pos s₂) (n / 2)) w
squared_odd m f s n f₂ s₂ w p c e h g =
    cong-trans m (cong-mul m (residue_of m f₂ (pos f *ℤ pos s) p h) (power-congruent m (residue_of m s₂ (pos s *ℤ pos s) p g) (n / 2)))
    (cong-trans m (cong_from m (turn (pos f) (pos s) (power (pos s *ℤ pos s) (n / 2)) ∙ ap (λ t. pos f *ℤ t) (sym (odd (pos s) n e)))) c)
  where
    turn : (f s t : ℤ) → f *ℤ s *ℤ t ≡ f *ℤ (t *ℤ s)
    turn f s t = simp expand

pub squared_first : (m base n : ℕ) → Congruent m (pos 1 *ℤ power (pos base) n) (power (pos base) n)
squared_first m base n = cong_from m (one-mul (power (pos base) n))

pub squared_last : (m f s n : ℕ) (w : ℤ) → f < m → n ≤ 0 → Congruent m (pos f *ℤ power (pos s) n) w → f ≡ residue m w
squared_last m f s n w l z c =
    let e : n ≡ 0 = omega arith in
    reduced_as m f w l (cong-trans m (cong_from m (sym (ap (λ k. pos f *ℤ power (pos s) k) e ∙ ap (λ t. pos f *ℤ t) (power-zero (pos s)) ∙ mul-one (pos f)))) c)
