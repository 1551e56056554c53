-- A sum over elements that are numbered, each number below a bound once, is the sum over the numbers.
use Rattle.std.proofs.Common.{◌≡◌, ℕ, zero, suc, ◌+◌, ◌*◌, ◌<◌, ◌≤◌, ◌≢◌, ◌⊎◌, inl, inr, List, [], ◌∷◌, length, get_or, sym, refl, ap, ◌∙◌, arith, mul-le-mul_right}
use Rattle.std.proofs.lemmas.Bool.Decides.{nat_tests}
use Rattle.std.specs.Prelude.{nat_eq, if◌then◌else◌}
use native.Mathlib.Decide.{ℕ_discrete}
use mathlib.Core.Logic.{dite}
use Rattle.co_board.specs.Once.{sum_over, times, once_below, sum_below, EachOnce}

pub sum_below-same : (n : ℕ) (f g : ℕ → ℕ) → ((i : ℕ) → i < n → f i ≡ g i) → sum_below n f ≡ sum_below n g
sum_below-same zero f g same = refl
sum_below-same (suc n) f g same = omega (arith, sum_below-same n f g (λ i l. same i (omega arith)), same n (omega arith))

-- the same number, so many times
pub sum_below-constant : (n c : ℕ) → sum_below n (λ i. c) ≡ n * c
sum_below-constant zero c = omega arith
sum_below-constant (suc n) c = omega (arith, sum_below-constant n c)

sum_below-add : (n : ℕ) (f g : ℕ → ℕ) → sum_below n (λ i. f i + g i) ≡ sum_below n f + sum_below n g
sum_below-add zero f g = refl
sum_below-add (suc n) f g = omega (arith, sum_below-add n f g)

sum_below-le : (n : ℕ) (f g : ℕ → ℕ) → ((i : ℕ) → i < n → f i ≤ g i) → sum_below n f ≤ sum_below n g
sum_below-le zero f g most = omega arith
sum_below-le (suc n) f g most = omega (arith, sum_below-le n f g (λ i l. most i (omega arith)), most n (omega arith))

pub sum_below-none : (n : ℕ) (f : ℕ → ℕ) → ((i : ℕ) → f i ≡ 0) → sum_below n f ≡ 0
sum_below-none zero f none = refl
sum_below-none (suc n) f none = omega (arith, sum_below-none n f none, none n)

sum_below-first : (n : ℕ) (f : ℕ → ℕ) → sum_below (suc n) f ≡ f 0 + sum_below n (λ i. f (suc i))
sum_below-first zero f = omega arith
sum_below-first (suc n) f = omega (arith, sum_below-first n f)

-- the sum over a list, by its places
pub sum_below-list : {X : Type 0} (f : X → ℕ) (xs : List X) (d : X) → sum_below (length xs) (λ i. f (get_or xs i d)) ≡ sum_over f xs
sum_below-list f [] d = refl
sum_below-list f (x ∷ xs) d = let more = sum_below-list f xs d in sum_below-first (length xs) (λ i. f (get_or (x ∷ xs) i d)) ∙ omega arith

-- what counts a number, and whether it is below a bound
pub is_one : (k n : ℕ) → k ≡ n → ◌≡◌ {A = ℕ} (if nat_eq k n then 1 else 0) 1
is_one k n e = grind (arith, nat_tests)

pub is_none : (k n : ℕ) → k ≢ n → ◌≡◌ {A = ℕ} (if nat_eq k n then 1 else 0) 0
is_none k n ne = grind (arith, nat_tests)

pub inside : (k n : ℕ) → k < n → once_below n k ≡ 1
inside k n h = grind (arith, nat_tests)

pub outside : (k n : ℕ) → n ≤ k → once_below n k ≡ 0
outside k n h = grind (arith, nat_tests)

same_bound : (n k : ℕ) → k ≢ n → once_below n k ≡ once_below (suc n) k
same_bound n k ne = grind (arith, nat_tests)

settled : (n k : ℕ) (f : ℕ → ℕ) (t a b d : ℕ) → t ≡ b * f k → ((k ≡ n) × (a ≡ 1) × (b ≡ 0) × (d ≡ 1)) ⊎ ((a ≡ 0) × (b ≡ d)) → t + a * f n ≡ d * f k
settled n k f t a b d e (inl (is, one, zero', one')) = let same : f k ≡ f n = ap f is in let x : a * f n ≡ f n = ap (λ z. z * f n) one ∙ omega arith in let y : b * f k ≡ 0 = ap (λ z. z * f k) zero' ∙ omega arith in
    let z : d * f k ≡ f k = ap (λ z. z * f k) one' ∙ omega arith in omega arith
settled n k f t a b d e (inr (none, same)) = let x : a * f n ≡ 0 = ap (λ z. z * f n) none ∙ omega arith in let y : b * f k ≡ d * f k = ap (λ z. z * f k) same in omega arith

chosen : (n k : ℕ) (f : ℕ → ℕ) (t : ℕ) → t ≡ once_below n k * f k → t + (if nat_eq k n then 1 else 0) * f n ≡ once_below (suc n) k * f k
chosen n k f t e = dite (ℕ_discrete k n)
    (λ is. settled n k f t (if nat_eq k n then 1 else 0) (once_below n k) (once_below (suc n) k) e (inl (is, is_one k n is, outside k n (omega arith), inside k (suc n) (omega arith))))
    (λ ne. settled n k f t (if nat_eq k n then 1 else 0) (once_below n k) (once_below (suc n) k) e (inr (is_none k n ne, same_bound n k ne)))

-- a number below n counts once
sum_below-one : (n k : ℕ) (f : ℕ → ℕ) → sum_below n (λ p. (if nat_eq k p then 1 else 0) * f p) ≡ once_below n k * f k
sum_below-one zero k f = omega (arith, sym (ap (λ z. z * f k) (outside k 0 (omega arith))))
sum_below-one (suc n) k f = chosen n k f (sum_below n (λ p. (if nat_eq k p then 1 else 0) * f p)) (sum_below-one n k f)

within : (n k : ℕ) → (n ≤ k → ⊥) → once_below n k ≡ 1
within n k h = grind (arith, nat_tests)

module _ {X : Type 0} (number : X → ℕ) (f : ℕ → ℕ) where
  -- how many are numbered p
  abbrev pub numbered : ℕ → List X → ℕ
  numbered p xs = sum_over (λ x. if nat_eq (number x) p then 1 else 0) xs

  weighed : (n : ℕ) (xs : List X) → ((p : ℕ) → n ≤ p → numbered p xs ≡ 0) → sum_over (λ x. f (number x)) xs ≡ sum_below n (λ p. numbered p xs * f p)
  weighed n [] none = sym (sum_below-none n (λ p. 0 * f p) (λ i. omega arith))
  weighed n (x ∷ xs) none =
      let k : ℕ = number x in
      let more = weighed n xs (λ p l. let all = none p l in omega arith) in
      let one = sum_below-one n k f in
      let here : once_below n k ≡ 1 = within n k (λ l. let all = none k l in let own = is_one k k refl in omega arith) in
      let once : once_below n k * f k ≡ f k = ap (λ z. z * f k) here ∙ omega arith in
      let both = sum_below-add n (λ p. (if nat_eq k p then 1 else 0) * f p) (λ p. numbered p xs * f p) in
      let spread = sum_below-same n (λ p. numbered p (x ∷ xs) * f p) (λ p. (if nat_eq k p then 1 else 0) * f p + numbered p xs * f p) (λ p l. omega arith) in
      omega arith

  pub by_number : (n : ℕ) (xs : List X) → ((p : ℕ) → numbered p xs ≡ once_below n p) → sum_over (λ x. f (number x)) xs ≡ sum_below n f
  by_number n xs once = weighed n xs (λ p l. once p ∙ outside p n l) ∙ sum_below-same n (λ p. numbered p xs * f p) f (λ p l. ap (λ z. z * f p) (once p ∙ inside p n l) ∙ omega arith)

module _ (f : ℕ → ℕ) where
  weighed_lists : (n : ℕ) (lists : List (List ℕ)) → ((p : ℕ) → n ≤ p → sum_over (times p) lists ≡ 0) → sum_over (sum_over f) lists ≡ sum_below n (λ p. sum_over (times p) lists * f p)
  weighed_lists n [] none = sym (sum_below-none n (λ p. 0 * f p) (λ i. omega arith))
  weighed_lists n (xs ∷ ls) none =
      let first = weighed (λ x. x) f n xs (λ p l. let all = none p l in omega arith) in
      let more = weighed_lists n ls (λ p l. let all = none p l in omega arith) in
      let both = sum_below-add n (λ p. times p xs * f p) (λ p. sum_over (times p) ls * f p) in
      let spread = sum_below-same n (λ p. sum_over (times p) (xs ∷ ls) * f p) (λ p. times p xs * f p + sum_over (times p) ls * f p) (λ p l. omega arith) in
      omega arith

  -- a sum over lists that together have each number below n once
  pub once-sum_below : (n : ℕ) (lists : List (List ℕ)) → EachOnce n lists → sum_over (sum_over f) lists ≡ sum_below n f
  once-sum_below n lists once = weighed_lists n lists (λ p l. once.each p ∙ outside p n l) ∙ sum_below-same n (λ p. sum_over (times p) lists * f p) f (λ p l. ap (λ z. z * f p) (once.each p ∙ inside p n l) ∙ omega arith)

  -- the same where each number stands at most once
  pub once-sum_below-le : (n : ℕ) (lists : List (List ℕ)) → ((x : ℕ) → sum_over (times x) lists ≤ once_below n x) → sum_over (sum_over f) lists ≤ sum_below n f
  once-sum_below-le n lists most = let e = weighed_lists n lists (λ p l. let m = most p in let o = outside p n l in omega arith) in
      let b = sum_below-le n (λ p. sum_over (times p) lists * f p) f (λ p l. let m : sum_over (times p) lists ≤ 1 = (let h = most p in let i = inside p n l in omega arith) in omega (arith, mul-le-mul_right (f p) m)) in omega arith
