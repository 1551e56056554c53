-- What sums, differences and plain products of ciphertexts are and mean.
use Rattle.std.proofs.Common.{◌≡◌, ℕ, ◌+◌, ◌*◌, ◌<◌, ◌≤◌, refl, sym, ap, subst, ◌∙◌, arith, ℤ, pos, ◌-ℤ◌, List, length, get_or, Bool, true, false, cond, leb}
use Rattle.std.specs.Int.RustNames.{unsigned_abs}
use borrow.Author.Differences.{abs_is}
use Rattle.std.proofs.lemmas.Bool.{leb-true, leb-false}
use Rattle.co_math.specs.Residues.{residue, Congruent}
use Rattle.co_math.specs.Polynomials.{IsWrapped, plus, minus, product}
use Rattle.co_math.specs.Coefficients.{coefficients, AreResidues, IsDegree, residues_of}
use Rattle.co_math.specs.Meanings.{centred, Means}
use Rattle.co_math.proofs.Integers.{linear}
use Rattle.co_math.proofs.Residues.{residue-lt}
use Rattle.co_math.proofs.Spreads.{spread-low}
use Rattle.co_math.proofs.Places.{coefficients-IsWrapped}
use Rattle.co_math.proofs.Polynomials.{product-IsWrapped}
use Rattle.co_math.proofs.Agreements.{Agree}
use Rattle.co_math.proofs.Switched.{wrapped_bound}
use Rattle.co_math.proofs.Done.{residues_below}
use Rattle.co_math.specs.Parameters.{q, plain_modulus, plain_half}
use Rattle.co_rns.specs.Residue_pairs.{centred_coefficients}
use Rattle.co_rns.specs.Pairs.{IsWhole}
use Rattle.co_rns.proofs.Centring.{centred_IsWrapped}
use Rattle.co_bfv.specs.Ciphertexts.{Ciphertext, IsCiphertext, ciphertext_degree, MeansWithin, IsCombined, zero_ciphertext, ciphertext_sum, ciphertext_difference, plain_product}
use Rattle.co_math.proofs.Degrees.{degree_positive}
use Rattle.co_math.proofs.Residue_lists.{residues_of-is, length-residues_of, residues_of-agree, residues_of-below}
use Rattle.co_math.proofs.Wrapped.{plus-IsWrapped, minus-IsWrapped}
use Rattle.co_bfv.proofs.Meant.{means_nothing, means_plus, means_minus, means_times}

tq_positive : 0 < plain_modulus * q
tq_positive = omega arith

-- a list of residues modulo q is a polynomial modulo q
pub residues_whole : (n : ℕ) (f : ℤ → ℤ) → IsDegree n → IsWhole (residues_of q n f)
residues_whole n f d = record { degree = subst IsDegree (sym (length-residues_of q n f)) d; below = residues_of-below q n f (omega arith) }

-- two of them of one degree are a ciphertext
pub whole_pair : (n : ℕ) (f g : ℤ → ℤ) → IsDegree n → IsCiphertext (record { c0 = residues_of q n f; c1 = residues_of q n g })
whole_pair n f g d = record { c0 = residues_whole n f d; c1 = residues_whole n g d; one_degree = length-residues_of q n g ∙ sym (length-residues_of q n f) }

module _ (c : Ciphertext) (h : IsCiphertext c) where
  pub positive_degree : 0 < ciphertext_degree c
  positive_degree = degree_positive (length c.c0) h.c0.degree

  pub c0-IsWrapped : IsWrapped (ciphertext_degree c) (coefficients c.c0)
  c0-IsWrapped = coefficients-IsWrapped c.c0 positive_degree

  pub c1-IsWrapped : IsWrapped (ciphertext_degree c) (coefficients c.c1)
  c1-IsWrapped = subst (λ (n : ℕ). IsWrapped n (coefficients c.c1)) h.one_degree (coefficients-IsWrapped c.c1 (degree_positive (length c.c1) h.c1.degree))

-- two lists of residues, as a ciphertext
pub parts_are : (n₀ n₁ : ℕ) (f g : ℤ → ℤ) (c : Ciphertext) → n₁ ≡ n₀ → AreResidues q n₀ f c.c0 → AreResidues q n₁ g c.c1
    → c ≡ record { c0 = residues_of q n₀ f; c1 = residues_of q n₀ g }
parts_are n₀ n₁ f g c e x y i = record { c0 = residues_of-is q n₀ f c.c0 x i; c1 = first i }
  where
    first : c.c1 ≡ residues_of q n₀ g
    first = residues_of-is q n₁ g c.c1 y ∙ ap (λ n. residues_of q n g) e

-- two lists of residues make a ciphertext
pub parts_IsCiphertext : (n₀ n₁ : ℕ) (f g : ℤ → ℤ) (c : Ciphertext) → IsDegree n₀ → n₁ ≡ n₀ → AreResidues q n₀ f c.c0 → AreResidues q n₁ g c.c1 → IsCiphertext c
parts_IsCiphertext n₀ n₁ f g c d e x y = record {
  c0 = record { degree = subst IsDegree (sym x.len) d; below = residues_below q n₀ f c.c0 (omega arith) x };
  c1 = record { degree = subst IsDegree (sym (y.len ∙ e)) d; below = residues_below q n₁ g c.c1 (omega arith) y };
  one_degree = y.len ∙ e ∙ sym x.len;
}

pub sum_are : (c d e : Ciphertext) → length c.c1 ≡ length c.c0
    → AreResidues q (length c.c0) (plus (coefficients c.c0) (coefficients d.c0)) e.c0
    → AreResidues q (length c.c1) (plus (coefficients c.c1) (coefficients d.c1)) e.c1 → e ≡ ciphertext_sum c d
unfolding ciphertext_sum
sum_are c d e l x y = parts_are (length c.c0) (length c.c1) (plus (coefficients c.c0) (coefficients d.c0)) (plus (coefficients c.c1) (coefficients d.c1)) e l x y

pub difference_are : (c d e : Ciphertext) → length c.c1 ≡ length c.c0
    → AreResidues q (length c.c0) (minus (coefficients c.c0) (coefficients d.c0)) e.c0
    → AreResidues q (length c.c1) (minus (coefficients c.c1) (coefficients d.c1)) e.c1 → e ≡ ciphertext_difference c d
unfolding ciphertext_difference
difference_are c d e l x y = parts_are (length c.c0) (length c.c1) (minus (coefficients c.c0) (coefficients d.c0)) (minus (coefficients c.c1) (coefficients d.c1)) e l x y

pub product_are : (c : Ciphertext) (xs : List ℕ) (e : Ciphertext) → length c.c1 ≡ length c.c0
    → AreResidues q (length c.c0) (product (length c.c0) (coefficients c.c0) (centred_coefficients xs)) e.c0
    → AreResidues q (length c.c1) (product (length c.c1) (coefficients c.c1) (centred_coefficients xs)) e.c1 → e ≡ plain_product c xs
unfolding plain_product
product_are c xs e l x y =
    parts_are (length c.c0) (length c.c1) (product (length c.c0) (coefficients c.c0) (centred_coefficients xs)) (product (length c.c0) (coefficients c.c1) (centred_coefficients xs)) e l x
    (subst (λ (n : ℕ). AreResidues q (length c.c1) (product n (coefficients c.c1) (centred_coefficients xs)) e.c1) l y)

pub zero_are : (n : ℕ) (e : Ciphertext) → AreResidues q n (λ _. pos 0) e.c0 → AreResidues q n (λ _. pos 0) e.c1 → e ≡ zero_ciphertext n
unfolding zero_ciphertext
zero_are n e x y = parts_are n n (λ _. pos 0) (λ _. pos 0) e refl x y

-- the ciphertext of zeros means 0 without noise
pub zero_means : (n : ℕ) (s : ℤ → ℤ) → IsDegree n → MeansWithin s (zero_ciphertext n) (λ _. pos 0) 0
unfolding zero_ciphertext
zero_means n s d =
    subst (λ (k : ℕ). Means plain_modulus q k s (coefficients zeros) (coefficients zeros) (λ _. pos 0) 0) (sym (length-residues_of q n (λ _. pos 0)))
    (means_nothing plain_modulus q n s (coefficients zeros) (coefficients zeros) tq_positive agree agree)
  where
    zeros : List ℕ
    zeros = residues_of q n (λ _. pos 0)

    agree : (k : ℤ) → Congruent q (coefficients zeros k) (pos 0)
    agree = residues_of-agree q n (λ _. pos 0) (omega arith) (degree_positive n d) (λ k. refl)

-- the noise of two ciphertexts that are added by parts, in a way that keeps polynomials and adds bounds
combined_means : (add : (ℤ → ℤ) → (ℤ → ℤ) → ℤ → ℤ) → ((n : ℕ) (a b : ℤ → ℤ) → IsWrapped n a → IsWrapped n b → IsWrapped n (add a b))
    → ((t q n : ℕ) (s c₀ c₁ d₀ d₁ e₀ e₁ a b : ℤ → ℤ) (x y : ℕ) → 0 < t * q → Agree q e₀ (add c₀ d₀) → Agree q e₁ (add c₁ d₁)
    → Means t q n s c₀ c₁ a x → Means t q n s d₀ d₁ b y → Means t q n s e₀ e₁ (add a b) (x + y))
    → (c d : Ciphertext) → IsCiphertext c → IsCiphertext d → ciphertext_degree d ≡ ciphertext_degree c → (s m₁ m₂ : ℤ → ℤ) (b₁ b₂ : ℕ) → MeansWithin s c m₁ b₁ → MeansWithin s d m₂ b₂
    → MeansWithin s (record { c0 = residues_of q (ciphertext_degree c) (add (coefficients c.c0) (coefficients d.c0)); c1 = residues_of q (ciphertext_degree c) (add (coefficients c.c1) (coefficients d.c1)) }) (add m₁ m₂) (b₁ + b₂)
combined_means add wrapped adds c d hc hd e s m₁ m₂ b₁ b₂ x y =
    let n = ciphertext_degree c in
    let f = add (coefficients c.c0) (coefficients d.c0) in
    let g = add (coefficients c.c1) (coefficients d.c1) in
    let z = positive_degree c hc in
    let w₀ = subst (λ (k : ℕ). IsWrapped k (coefficients d.c0)) e (c0-IsWrapped d hd) in
    let w₁ = subst (λ (k : ℕ). IsWrapped k (coefficients d.c1)) e (c1-IsWrapped d hd) in
    let y' = subst (λ (k : ℕ). Means plain_modulus q k s (coefficients d.c0) (coefficients d.c1) m₂ b₂) e y in
    subst (λ (k : ℕ). Means plain_modulus q k s (coefficients (residues_of q n f)) (coefficients (residues_of q n g)) (add m₁ m₂) (b₁ + b₂)) (sym (length-residues_of q n f))
    (adds plain_modulus q n s (coefficients c.c0) (coefficients c.c1) (coefficients d.c0) (coefficients d.c1) (coefficients (residues_of q n f)) (coefficients (residues_of q n g)) m₁ m₂ b₁ b₂ tq_positive
    (residues_of-agree q n f (omega arith) z (wrapped n (coefficients c.c0) (coefficients d.c0) (c0-IsWrapped c hc) w₀))
    (residues_of-agree q n g (omega arith) z (wrapped n (coefficients c.c1) (coefficients d.c1) (c1-IsWrapped c hc) w₁)) x y')

-- the noise of a sum
pub sum_means : (c d : Ciphertext) → IsCiphertext c → IsCiphertext d → ciphertext_degree d ≡ ciphertext_degree c
    → (s m₁ m₂ : ℤ → ℤ) (b₁ b₂ : ℕ) → MeansWithin s c m₁ b₁ → MeansWithin s d m₂ b₂ → MeansWithin s (ciphertext_sum c d) (plus m₁ m₂) (b₁ + b₂)
unfolding ciphertext_sum
sum_means c d hc hd e s m₁ m₂ b₁ b₂ x y = combined_means plus plus-IsWrapped means_plus c d hc hd e s m₁ m₂ b₁ b₂ x y

-- the noise of a difference
pub difference_means : (c d : Ciphertext) → IsCiphertext c → IsCiphertext d → ciphertext_degree d ≡ ciphertext_degree c
    → (s m₁ m₂ : ℤ → ℤ) (b₁ b₂ : ℕ) → MeansWithin s c m₁ b₁ → MeansWithin s d m₂ b₂ → MeansWithin s (ciphertext_difference c d) (minus m₁ m₂) (b₁ + b₂)
unfolding ciphertext_difference
difference_means c d hc hd e s m₁ m₂ b₁ b₂ x y = combined_means minus minus-IsWrapped means_minus c d hc hd e s m₁ m₂ b₁ b₂ x y

-- ciphertexts that are added by parts in this way are combined
abbrev CombinesParts : ((ℤ → ℤ) → (ℤ → ℤ) → ℤ → ℤ) → (Ciphertext → Ciphertext → Ciphertext) → Type 0
CombinesParts add made =
    (x y z c d : Ciphertext) → IsCiphertext x → IsCiphertext y → x ≡ c → y ≡ d → ciphertext_degree d ≡ ciphertext_degree c
    → AreResidues q (length x.c0) (add (coefficients x.c0) (coefficients y.c0)) z.c0
    → AreResidues q (length x.c1) (add (coefficients x.c1) (coefficients y.c1)) z.c1 → IsCombined add (made c d) c d z

combined : (add : (ℤ → ℤ) → (ℤ → ℤ) → ℤ → ℤ) (made : Ciphertext → Ciphertext → Ciphertext)
    → ((c d : Ciphertext) → ciphertext_degree (made c d) ≡ ciphertext_degree c)
    → ((c d e : Ciphertext) → length c.c1 ≡ length c.c0
    → AreResidues q (length c.c0) (add (coefficients c.c0) (coefficients d.c0)) e.c0
    → AreResidues q (length c.c1) (add (coefficients c.c1) (coefficients d.c1)) e.c1 → e ≡ made c d)
    → ((c d : Ciphertext) → IsCiphertext c → IsCiphertext d → ciphertext_degree d ≡ ciphertext_degree c
    → (s m₁ m₂ : ℤ → ℤ) (b₁ b₂ : ℕ) → MeansWithin s c m₁ b₁ → MeansWithin s d m₂ b₂
    → MeansWithin s (made c d) (add m₁ m₂) (b₁ + b₂))
    → CombinesParts add made
combined add made degree are means x y z c d hx hy a b one f g =
    let value : z ≡ made c d = are x y z hx.one_degree f g ∙ (λ i. made (a i) (b i)) in
    record {
      value = value;
      meaning = λ s m₁ m₂ b₁ b₂ u v. subst (λ (w : Ciphertext). MeansWithin s w (add m₁ m₂) (b₁ + b₂)) (sym value)
          (means c d (subst IsCiphertext a hx) (subst IsCiphertext b hy) one s m₁ m₂ b₁ b₂ u v);
      degree = ap ciphertext_degree value ∙ degree c d;
    }

pub sum-degree : (c d : Ciphertext) → ciphertext_degree (ciphertext_sum c d) ≡ ciphertext_degree c
unfolding ciphertext_sum
sum-degree c d = length-residues_of q (ciphertext_degree c) (plus (coefficients c.c0) (coefficients d.c0))

pub difference-degree : (c d : Ciphertext) → ciphertext_degree (ciphertext_difference c d) ≡ ciphertext_degree c
unfolding ciphertext_difference
difference-degree c d = length-residues_of q (ciphertext_degree c) (minus (coefficients c.c0) (coefficients d.c0))

pub sum_combined : CombinesParts plus ciphertext_sum
sum_combined = combined plus ciphertext_sum sum-degree sum_are sum_means

pub difference_combined : CombinesParts minus ciphertext_difference
difference_combined = combined minus ciphertext_difference difference-degree difference_are difference_means

halved : (r : ℕ) (b : Bool) → r < plain_modulus → leb (r + r) plain_modulus ≡ b → unsigned_abs (cond b (pos r) (pos r -ℤ pos plain_modulus)) ≤ plain_half
halved r true l e = omega (arith, leb-true (r + r) plain_modulus e)
halved r false l e = omega (arith, linear, leb-false (r + r) plain_modulus e, abs_is (pos r -ℤ pos plain_modulus))

centred-small : (z : ℤ) → unsigned_abs (centred plain_modulus z) ≤ plain_half
unfolding centred
centred-small z = halved (residue plain_modulus z) (leb (residue plain_modulus z + residue plain_modulus z) plain_modulus) (residue-lt plain_modulus z (omega arith)) refl

centred_coefficients-small : (xs : List ℕ) → 0 < length xs → (k : ℤ) → unsigned_abs (centred_coefficients xs k) ≤ plain_half
unfolding centred_coefficients
centred_coefficients-small xs z =
    wrapped_bound (length xs) (centred_coefficients xs) plain_half z (centred_IsWrapped xs z)
    (λ i l. subst (λ (y : ℤ). unsigned_abs y ≤ plain_half) (sym (spread-low (length xs) (λ j. centred plain_modulus (pos (get_or xs j 0))) i l)) (centred-small (pos (get_or xs i 0))))

-- the noise of a plain product
pub product_means : (c : Ciphertext) (xs : List ℕ) → IsCiphertext c → length xs ≡ ciphertext_degree c
    → (s m : ℤ → ℤ) (b : ℕ) → IsWrapped (ciphertext_degree c) s → MeansWithin s c m b
    → MeansWithin s (plain_product c xs) (product (ciphertext_degree c) (centred_coefficients xs) m) (ciphertext_degree c * plain_half * b)
unfolding plain_product
product_means c xs h e s m b w x =
    let n = ciphertext_degree c in
    let p = centred_coefficients xs in
    let f = product n (coefficients c.c0) p in
    let g = product n (coefficients c.c1) p in
    let z = positive_degree c h in
    let zx : 0 < length xs = omega (arith, e, z) in
    let wp = subst (λ (k : ℕ). IsWrapped k p) e (centred_IsWrapped xs zx) in
    let bound : n * (plain_half * b) ≡ n * plain_half * b = omega arith in
    subst (λ (k : ℕ). Means plain_modulus q k s (coefficients (residues_of q n f)) (coefficients (residues_of q n g)) (product n p m) (n * plain_half * b)) (sym (length-residues_of q n f))
    (subst (λ (y : ℕ). Means plain_modulus q n s (coefficients (residues_of q n f)) (coefficients (residues_of q n g)) (product n p m) y) bound
    (means_times plain_modulus q n s (coefficients c.c0) (coefficients c.c1) (coefficients (residues_of q n f)) (coefficients (residues_of q n g)) m p plain_half b tq_positive z w (c0-IsWrapped c h) (c1-IsWrapped c h) wp
    (residues_of-agree q n f (omega arith) z (product-IsWrapped n (coefficients c.c0) p wp))
    (residues_of-agree q n g (omega arith) z (product-IsWrapped n (coefficients c.c1) p wp)) (centred_coefficients-small xs zx) x))
