-- Laws of sums over 0..n.
use Rattle.std.proofs.Common.{◌≡◌, ℕ, zero, suc, ◌+◌, ◌*◌, ◌<◌, ◌≢◌, refl, sym, ap, ⊎_elim, cond, eqb, ◌∙◌, arith, ℤ, pos, ◌+ℤ◌, ◌*ℤ◌}
use lib.IntN.{neg_ℤ}
use Rattle.std.proofs.lemmas.Bool.{cases_eq}
use Rattle.std.proofs.lemmas.Bool.Decides.{nat_tests}
use Rattle.co_math.specs.Sums.{total}
use Rattle.co_math.proofs.Integers.{linear, mul-add, mul-zero}

pub total-zero : (f : ℕ → ℤ) → total 0 f ≡ pos 0
unfolding total
total-zero f = refl

pub total-suc : (n : ℕ) (f : ℕ → ℤ) → total (suc n) f ≡ total n f +ℤ f n
unfolding total
total-suc n f = refl

pub total-same : (n : ℕ) (f g : ℕ → ℤ) → ((i : ℕ) → i < n → f i ≡ g i) → total n f ≡ total n g
unfolding total
total-same zero f g h = refl
total-same (suc n) f g h = λ t. total-same n f g (λ i l. h i (omega arith)) t +ℤ h n (omega arith) t

pub total-add : (n : ℕ) (f g : ℕ → ℤ) → total n (λ i. f i +ℤ g i) ≡ total n f +ℤ total n g
unfolding total
total-add zero f g = refl
total-add (suc n) f g = omega (arith, linear, total-add n f g)

pub total-neg : (n : ℕ) (f : ℕ → ℤ) → total n (λ i. neg_ℤ (f i)) ≡ neg_ℤ (total n f)
unfolding total
total-neg zero f = refl
total-neg (suc n) f = omega (arith, linear, total-neg n f)

pub total-scale : (n : ℕ) (c : ℤ) (f : ℕ → ℤ) → total n (λ i. c *ℤ f i) ≡ c *ℤ total n f
unfolding total
total-scale zero c f = sym (mul-zero c)
total-scale (suc n) c f = ap (λ t. t +ℤ c *ℤ f n) (total-scale n c f) ∙ sym (mul-add c (total n f) (f n))

pub total-none : (n : ℕ) (f : ℕ → ℤ) → ((i : ℕ) → i < n → f i ≡ pos 0) → total n f ≡ pos 0
unfolding total
total-none zero f h = refl
total-none (suc n) f h = omega (arith, linear, total-none n f (λ i l. h i (omega arith)), h n (omega arith))

pub total-swap : (n m : ℕ) (f : ℕ → ℕ → ℤ) → total n (λ i. total m (f i)) ≡ total m (λ j. total n (λ i. f i j))
unfolding total
total-swap zero m f = sym (total-none m (λ j. pos 0) (λ j l. refl))
total-swap (suc n) m f = ap (λ t. t +ℤ total m (f n)) (total-swap n m f) ∙ sym (total-add m (λ j. total n (λ i. f i j)) (f n))

pub total-append : (m n : ℕ) (f : ℕ → ℤ) → total (m + n) f ≡ total m f +ℤ total n (λ i. f (m + i))
unfolding total
total-append m zero f = let e : m + zero ≡ m = omega arith in ap (λ k. total k f) e ∙ omega (arith, linear)
total-append m (suc n) f = let e : m + suc n ≡ suc (m + n) = omega arith in ap (λ k. total k f) e ∙ omega (arith, linear, total-append m n f)

pub total-first : (n : ℕ) (f : ℕ → ℤ) → total (suc n) f ≡ f 0 +ℤ total n (λ i. f (suc i))
unfolding total
total-first zero f = omega (arith, linear)
total-first (suc n) f = omega (arith, linear, total-first n f)

-- only the place k counts
pub total-single : (n : ℕ) (f : ℕ → ℤ) (k : ℕ) → k < n → ((i : ℕ) → i < n → i ≢ k → f i ≡ pos 0) → total n f ≡ f k
unfolding total
total-single zero f k l h = absurd (omega arith)
total-single (suc n) f k l h = ⊎_elim
    (λ e. omega (arith, linear, total-none n f (λ i m. h i (omega arith) (omega arith)), ap f e))
    (λ ne. omega (arith, linear, total-single n f k (omega arith) (λ i m d. h i (omega arith) d), h n (omega arith) (omega arith)))
    (cases_eq k n)

pub total-ones : (n : ℕ) → total n (λ i. pos 1) ≡ pos n
total-ones zero = total-zero (λ i. pos 1)
total-ones (suc n) = total-suc n (λ i. pos 1) ∙ ap (λ t. t +ℤ pos 1) (total-ones n) ∙ ap pos (omega arith)

-- m blocks of n places
pub total-blocks : (m n : ℕ) (f : ℕ → ℤ) → total (m * n) f ≡ total m (λ i. total n (λ j. f (i * n + j)))
unfolding total
total-blocks zero n f = let e : zero * n ≡ zero = omega arith in ap (λ k. total k f) e
total-blocks (suc m) n f = let e : suc m * n ≡ m * n + n = omega arith in
    ap (λ k. total k f) e ∙ total-append (m * n) n f ∙ ap (λ t. t +ℤ total n (λ j. f (m * n + j))) (total-blocks m n f)

-- σ is a permutation of 0..n, with the inverse τ
pub record Permutes (n : ℕ) (σ τ : ℕ → ℕ) : Type 0 where
  pub there : (i : ℕ) → i < n → σ i < n
  pub back : (j : ℕ) → j < n → τ j < n
  pub undone : (i : ℕ) → i < n → τ (σ i) ≡ i
  pub redone : (j : ℕ) → j < n → σ (τ j) ≡ j

-- x where i is j, else 0
unfoldable pub only : ℕ → ℕ → ℤ → ℤ
only i j x = cond (eqb i j) x (pos 0)

pub only-same : (i j : ℕ) (x : ℤ) → i ≡ j → only i j x ≡ x
unfolding only
only-same i j x e = grind (arith, nat_tests)

pub only-other : (i j : ℕ) (x : ℤ) → i ≢ j → only i j x ≡ pos 0
unfolding only
only-other i j x ne = grind (arith, nat_tests)

pub total-permute : (n : ℕ) (σ τ : ℕ → ℕ) (f : ℕ → ℤ) → Permutes n σ τ → total n (λ i. f (σ i)) ≡ total n f
total-permute n σ τ f p =
    total-same n (λ i. f (σ i)) (λ i. total n (λ j. only (σ i) j (f j)))
    (λ i l. sym (total-single n (λ j. only (σ i) j (f j)) (σ i) (p.there i l) (λ j m ne. only-other (σ i) j (f j) (λ e. ne (sym e))) ∙ only-same (σ i) (σ i) (f (σ i)) refl))
    ∙ total-swap n n (λ i j. only (σ i) j (f j))
    ∙ total-same n (λ j. total n (λ i. only (σ i) j (f j))) f
    (λ j l. total-single n (λ i. only (σ i) j (f j)) (τ j) (p.back j l) (λ i m ne. only-other (σ i) j (f j) (λ e. ne (sym (p.undone i m) ∙ ap τ e)))
    ∙ only-same (σ (τ j)) j (f j) (p.redone j l))
