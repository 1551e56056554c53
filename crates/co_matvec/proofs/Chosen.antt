-- A family with one more member.
use Rattle.std.proofs.Common.{◌≡◌, ℕ, ◌<◌, refl, ap, arith, cond, eqb, eq-eqb, true, false}
use Rattle.std.proofs.lemmas.Bool.Decides.{nat_tests}

-- the next one stands beside those before it
pub chosen : {X : Type 0} → ℕ → X → (ℕ → X) → ℕ → X
chosen i x f j = cond (eqb j i) x (f j)

pub chosen-here : {X : Type 0} (i : ℕ) (x : X) (f : ℕ → X) → chosen i x f i ≡ x
unfolding chosen
chosen-here i x f = ap (λ b. cond b x (f i)) (same i)
  where
    same : (i : ℕ) → eqb i i ≡ true
    same i = eq-eqb i i refl

pub chosen-before : {X : Type 0} (i : ℕ) (x : X) (f : ℕ → X) (j : ℕ) → j < i → chosen i x f j ≡ f j
unfolding chosen
chosen-before i x f j l = ap (λ b. cond b x (f j)) (other i j l)
  where
    other : (i j : ℕ) → j < i → eqb j i ≡ false
    other i j l = grind (arith, nat_tests)
