-- Lists of polynomials as functions that are 0 from their length on.
use Rattle.std.proofs.Common.{◌≡◌, ℕ, ◌<◌, ◌≤◌, sym, subst, ⊎_elim, arith, ℤ, pos, cond, ltb}
use Rattle.std.proofs.lemmas.Bool.{cases_lt}
use Rattle.std.proofs.lemmas.Bool.Decides.{nat_tests}

-- x where j is below l, else 0
unfoldable pub below : ℕ → ℕ → ℤ → ℤ
below l j x = cond (ltb j l) x (pos 0)

pub below-in : (l j : ℕ) (x : ℤ) → j < l → below l j x ≡ x
unfolding below
below-in l j x u = grind (arith, nat_tests)

pub below-out : (l j : ℕ) (x : ℤ) → l ≤ j → below l j x ≡ pos 0
unfolding below
below-out l j x u = grind (arith, nat_tests)

-- f j where j is below l, else 0
unfoldable pub cut : ℕ → (ℕ → ℤ → ℤ) → ℕ → ℤ → ℤ
cut l f j k = below l j (f j k)

pub cut-in : (l : ℕ) (f : ℕ → ℤ → ℤ) (j : ℕ) → j < l → cut l f j ≡ f j
unfolding cut
cut-in l f j u = λ t k. below-in l j (f j k) u t

pub cut-out : (l : ℕ) (f : ℕ → ℤ → ℤ) (j : ℕ) → l ≤ j → cut l f j ≡ (λ k. pos 0)
unfolding cut
cut-out l f j u = λ t k. below-out l j (f j k) u t

-- what holds of each of the first l and of 0 holds of all
pub cut_all : (P : (ℤ → ℤ) → Type 0) (l : ℕ) (f : ℕ → ℤ → ℤ) → ((j : ℕ) → j < l → P (f j)) → P (λ k. pos 0) → (j : ℕ) → P (cut l f j)
cut_all P l f h z j = ⊎_elim (λ u. subst P (sym (cut-in l f j u)) (h j u)) (λ u. subst P (sym (cut-out l f j u)) z) (cases_lt j l)
