-- Values drawn one after another.
use Rattle.std.proofs.Common.{◌≡◌, ℕ, ℤ, zero, suc, ◌+◌, ◌-ℤ◌, ◌/◌, ◌%◌, ◌^◌, ◌<◌, ◌≤◌, count_ones, to_z, of_z, w8, refl, sym, ap, subst, ◌∙◌, arith, pos, List, [], ◌∷◌, ◌++◌, length, get_or, set, add-one, length-append}
use Rattle.std.specs.Int.RustNames.{unsigned_abs}
use Rattle.std.proofs.lemmas.Grind.{elements}
use Rattle.std.proofs.lemmas.Int.{ints}
use Rattle.std.proofs.lemmas.List.{ext_get_or}
use Rattle.std.proofs.lemmas.Nat.{ones-le}
use borrow.Author.Differences.{abs_is}
use Rattle.rand_core.specs.Stream.{Stream, next_u64}
use Rattle.co_math.proofs.Integers.{linear}
use Rattle.co_math.specs.Parameters.{q, first_modulus, second_modulus, error_bound}
use Rattle.co_rns.specs.Residue_pairs.{composed, all_composed}
use Rattle.co_rns.proofs.Composing.{length-all_composed, get_or-all_composed, composed-below}
use Rattle.co_rns.specs.Pairs.{IsWhole}
use Rattle.co_math.specs.Coefficients.{IsDegree}
use Rattle.co_bfv.specs.Secrets.{IsSecret}
use Rattle.co_bfv.specs.Draws.{drawn, ternary_draw, wide_draw, coefficient_draw, binomial_draw, secret_draw, uniform_draw}

pub drawn-more : {A : Type 0} (draw : Stream → A × Stream) (k : ℕ) (start s t : Stream) (xs : List A) (x : A)
    → (xs, s) ≡ drawn draw k start → (x, t) ≡ draw s → (xs ++ x ∷ [], t) ≡ drawn draw (k + 1) start
drawn-more {A} draw k start s t xs x e f = rw add-one (rw (← e) (ap (λ (p : A × Stream). (xs ++ p.0 ∷ [], p.1)) f))

pub rest-drawn : {A : Type 0} (draw : Stream → A × Stream) (k : ℕ) (start s t : Stream) (x : A)
    → s ≡ (drawn draw k start).1 → (x, t) ≡ draw s → t ≡ (drawn draw (k + 1) start).1
rest-drawn {A} draw k start s t x e f = rw add-one (ap (λ (p : A × Stream). p.1) (f ∙ ap draw e))

pub list-drawn : {A : Type 0} (draw : Stream → A × Stream) (k : ℕ) (start s t : Stream) (x : A)
    → s ≡ (drawn draw k start).1 → (x, t) ≡ draw s → (drawn draw (k + 1) start).0 ≡ (drawn draw k start).0 ++ x ∷ []
list-drawn {A} draw k start s t x e f = rw add-one (ap (λ (p : A × Stream). (drawn draw k start).0 ++ p.0 ∷ []) (sym (f ∙ ap draw e)))

pub length-drawn : {A : Type 0} (draw : Stream → A × Stream) (n : ℕ) (s : Stream) → length (drawn draw n s).0 ≡ n
length-drawn draw zero s = refl
length-drawn draw (suc n) s = omega (arith, length-append (drawn draw n s).0 ((draw (drawn draw n s).1).0 ∷ []), length-drawn draw n s)

-- the first k numbers have absolute values up to b
pub record AreSmall (k b : ℕ) (xs : List ℤ) : Type 0 where
  pub len : length xs ≡ k
  pub each : (i : ℕ) → i < k → unsigned_abs (get_or xs i (pos 0)) ≤ b

pub none_small : (b : ℕ) → AreSmall 0 b []
none_small b = record { len = refl; each = λ i l. absurd (omega arith) }

pub one_small : (k b : ℕ) (x : ℤ) (xs : List ℤ) → AreSmall k b xs → unsigned_abs x ≤ b → AreSmall (k + 1) b (xs ++ x ∷ [])
one_small k b x xs h l = record { len = grind (arith, elements); each = grind (arith, elements) }

-- the first k numbers are composed of two lists
pub record AreParts (k : ℕ) (xs us vs : List ℕ) : Type 0 where
  pub len : length xs ≡ k
  pub each : (i : ℕ) → i < k → get_or xs i 0 ≡ composed (get_or us i 0) (get_or vs i 0)

one_part : (k x u v : ℕ) (xs us vs : List ℕ) → AreParts k xs us vs → k < length us → k < length vs → x ≡ composed u v
    → AreParts (k + 1) (xs ++ x ∷ []) (set us k u) (set vs k v)
one_part k x u v xs us vs h l m e = record { len = grind (arith, elements); each = grind (arith, elements) }

pub one_more_part : (k x u v : ℕ) (xs us vs ys rs ts : List ℕ) → AreParts k xs us vs → k < length us → k < length vs → x ≡ composed u v
    → ys ≡ xs ++ x ∷ [] → rs ≡ set us k u → ts ≡ set vs k v → AreParts (k + 1) ys rs ts
one_more_part k x u v xs us vs ys rs ts h l m e a b c = rw (a, b, c) (one_part k x u v xs us vs h l m e)

pub all_parts : (k : ℕ) (xs us vs : List ℕ) → AreParts k xs us vs → length us ≡ k → length vs ≡ k → all_composed us vs ≡ xs
all_parts k xs us vs h l m =
    let e : length vs ≡ length us = omega arith in
    let n = length-all_composed us vs e in
    ext_get_or 0 (all_composed us vs) xs (n ∙ l ∙ sym h.len)
    (λ i u. get_or-all_composed us vs i e (omega (arith, n)) ∙ sym (h.each i (omega (arith, n))))

-- one word
pub ternary_is : (r : ℕ) → to_z w8 (of_z w8 (to_z w8 (r % 3) -ℤ pos 1)) ≡ pos (r % 3) -ℤ pos 1
ternary_is r = omega (arith, ints)

pub ones_is : (a b : ℕ) → a ≤ error_bound → b ≤ error_bound → to_z w8 (of_z w8 (to_z w8 a -ℤ to_z w8 b)) ≡ pos a -ℤ pos b
ones_is a b l m = omega (arith, ints)

pub ones_small : (r : ℕ) → count_ones (r % 2 ^ error_bound) ≤ error_bound
ones_small r = ones-le error_bound (r % 2 ^ error_bound) (omega arith)

noise_small : (a b : ℕ) → a ≤ error_bound → b ≤ error_bound → unsigned_abs (pos a -ℤ pos b) ≤ error_bound
noise_small a b l m = omega (arith, linear, abs_is (pos a -ℤ pos b))

-- each drawn error is at most 21
pub errors_small : (n : ℕ) (s : Stream) → AreSmall n error_bound (drawn binomial_draw n s).0
unfolding binomial_draw
errors_small zero s = none_small error_bound
errors_small (suc n) s =
    let before = drawn binomial_draw n s in
    let w = (next_u64 before.1).0 in
    let x = pos (count_ones (w % 2 ^ error_bound)) -ℤ pos (count_ones (w / 2 ^ error_bound % 2 ^ error_bound)) in
    subst (λ (k : ℕ). AreSmall k error_bound (before.0 ++ x ∷ [])) (add-one n)
    (one_small n error_bound x before.0 (errors_small n s)
    (noise_small (count_ones (w % 2 ^ error_bound)) (count_ones (w / 2 ^ error_bound % 2 ^ error_bound)) (ones_small w) (ones_small (w / 2 ^ error_bound))))

-- each drawn coefficient of a secret is -1, 0 or 1
pub secrets_small : (n : ℕ) (s : Stream) → AreSmall n 1 (drawn ternary_draw n s).0
unfolding ternary_draw
secrets_small zero s = none_small 1
secrets_small (suc n) s =
    let before = drawn ternary_draw n s in
    let r = (next_u64 before.1).0 in
    subst (λ (k : ℕ). AreSmall k 1 (before.0 ++ (pos (r % 3) -ℤ pos 1) ∷ [])) (add-one n)
    (one_small n 1 (pos (r % 3) -ℤ pos 1) before.0 (secrets_small n s) (omega (arith, linear, abs_is (pos (r % 3) -ℤ pos 1))))

-- the first k numbers are below m
pub record AreUnder (k m : ℕ) (xs : List ℕ) : Type 0 where
  pub len : length xs ≡ k
  pub each : (i : ℕ) → i < k → get_or xs i 0 < m

one_under : (k m x : ℕ) (xs : List ℕ) → AreUnder k m xs → x < m → AreUnder (k + 1) m (xs ++ x ∷ [])
one_under k m x xs h l = record { len = grind (arith, elements); each = grind (arith, elements) }

-- each drawn coefficient is below q
pub coefficients_under : (n : ℕ) (s : Stream) → AreUnder n q (drawn coefficient_draw n s).0
unfolding coefficient_draw
coefficients_under zero s = record { len = refl; each = λ i l. absurd (omega arith) }
coefficients_under (suc n) s =
    let before = drawn coefficient_draw n s in
    let x = wide_draw before.1 in
    let y = wide_draw x.1 in
    subst (λ (k : ℕ). AreUnder k q (before.0 ++ composed (x.0 % first_modulus) (y.0 % second_modulus) ∷ [])) (add-one n)
    (one_under n q (composed (x.0 % first_modulus) (y.0 % second_modulus)) before.0 (coefficients_under n s) (composed-below (x.0 % first_modulus) (y.0 % second_modulus) (omega arith)))

pub secret-IsSecret : (n : ℕ) (s : Stream) → IsDegree n → IsSecret (secret_draw n s).0
unfolding secret_draw
secret-IsSecret n s d = let h = secrets_small n s in record { degree = subst IsDegree (sym h.len) d; small = λ i l. h.each i (omega (arith, h.len)) }

pub uniform-IsWhole : (n : ℕ) (s : Stream) → IsDegree n → IsWhole (uniform_draw n s).0
unfolding uniform_draw
uniform-IsWhole n s d = let h = coefficients_under n s in record { degree = subst IsDegree (sym h.len) d; below = λ i l. h.each i (omega (arith, h.len)) }
