-- Products, sums and zeros of ciphertexts, by their values.
use Rattle.std.proofs.Common.{◌≡◌, ℕ, ◌<◌, sym, ap, subst, ◌∙◌, arith, ℤ, pos, ◌+ℤ◌, List, [], ◌∷◌, length}
use Rattle.co_math.specs.Parameters.{q}
use Rattle.co_math.specs.Coefficients.{IsDegree, coefficients, residues_of}
use Rattle.co_math.specs.Polynomials.{IsWrapped, plus, product, unit}
use Rattle.co_math.proofs.Integers.{linear}
use Rattle.co_math.proofs.Degrees.{degree_positive}
use Rattle.co_math.proofs.Done.{own_residues}
use Rattle.co_math.proofs.Residues.{cong-add, cong-refl, cong-sym}
use Rattle.co_math.proofs.Residue_lists.{residues_of-is}
use Rattle.co_math.proofs.Spreads.{product-unit}
use Rattle.co_rns.specs.Pairs.{IsWhole}
use Rattle.co_rns.specs.Residue_pairs.{centred_coefficients}
use Rattle.co_rns.specs.Spectra.{PairSums, PairValues, IsNoPairSum, IsPairSumOf, IsPairSumWith, IsPairSumWithAll, IsReducedPair, IsSpectrumOf}
use Rattle.co_rns.proofs.Centring.{centred_IsWrapped}
use Rattle.co_rns.proofs.Spectra_agree.{gathered_none, gathered_with, gathered_reduced, with_pair, with_pair-is, first_of_pairs, last_of_pairs}
use Rattle.co_bfv.specs.Ciphertexts.{Ciphertext, ciphertext_degree, ciphertext_sum, plain_product, zero_ciphertext}
use Rattle.co_bfv.specs.Totals.{no_ciphertext, IsOfDegree}
use Rattle.co_bfv.proofs.Combined.{c0-IsWrapped, c1-IsWrapped}
use Rattle.co_bfv.proofs.Totals.{residues_agree_low, sum-parts, ciphertext_sum-IsOfDegree, ciphertext_total-zero, ciphertext_total-IsOfDegree}
use Rattle.co_spectra.specs.Sums.{CipherSums, IsCipherSumOf, three_added}
use Rattle.co_spectra.specs.Values.{CipherValues, AreCipherValues, ArePlainValues}
use Rattle.co_spectra.proofs.Agreeing.{pair_sum_low}

-- a sum that is reduced and added times 1
pub reduced_added : (n : ℕ) (e f : ℤ → ℤ) (sum old new : PairSums) (room one : PairValues) → IsDegree n → IsWrapped n f → IsPairSumOf n e old → IsPairSumOf n f sum → IsReducedPair sum room
    → IsSpectrumOf n (unit n) one → IsPairSumWith old one room new → IsPairSumOf n (plus e f) new
unfolding plus
reduced_added n e f sum old new room one d w h g r u s =
    let z : 0 < n = degree_positive n d in
    subst (λ (p : ℤ → ℤ). IsPairSumOf n p new) (λ t k. e k +ℤ product-unit n f z k t)
    (gathered_with n e (unit n) f old new one room d w h u (gathered_reduced n f sum room g r) s)

-- the same where there was nothing
pub reduced_alone : (n : ℕ) (f : ℤ → ℤ) (sum none new : PairSums) (room one : PairValues) → IsDegree n → IsWrapped n f → IsNoPairSum n none → IsPairSumOf n f sum → IsReducedPair sum room
    → IsSpectrumOf n (unit n) one → IsPairSumWith none one room new → IsPairSumOf n f new
unfolding plus
reduced_alone n f sum none new room one d w h g r u s =
    subst (λ (p : ℤ → ℤ). IsPairSumOf n p new) (λ t k. nothing (f k) t)
    (reduced_added n (λ _. pos 0) f sum none new room one d w (gathered_none n none h) g r u s)
  where
    nothing : (x : ℤ) → pos 0 +ℤ x ≡ x
    nothing x = omega (arith, linear)

-- a polynomial modulo q is the list of its residues
pub own : (n : ℕ) (xs : List ℕ) → IsWhole xs → length xs ≡ n → residues_of q n (coefficients xs) ≡ xs
own n xs h e = ap (λ m. residues_of q m (coefficients xs)) (sym e) ∙ sym (residues_of-is q (length xs) (coefficients xs) xs (own_residues q xs h.below))

pub part_zero : (n : ℕ) (s : PairSums) → IsNoPairSum n s → IsPairSumOf n (coefficients (residues_of q n (λ k. pos 0))) s
part_zero n s h = pair_sum_low n (λ k. pos 0) (coefficients (residues_of q n (λ k. pos 0))) s (λ k l. cong-sym q (residues_agree_low n (λ i. pos 0) k l)) (gathered_none n s h)

pub none_are : (n : ℕ) (c₀ c₁ : PairSums) → IsDegree n → IsNoPairSum n c₀ → IsNoPairSum n c₁ → IsCipherSumOf (zero_ciphertext n) (record { degree = n; c0 = c₀; c1 = c₁ })
unfolding zero_ciphertext
none_are n c₀ c₁ d h g = record {
  cipher = subst (IsOfDegree n) (ciphertext_total-zero n (λ j. no_ciphertext)) (ciphertext_total-IsOfDegree n 0 (λ j. no_ciphertext) d);
  c0 = part_zero n c₀ h;
  c1 = part_zero n c₁ g;
}

-- one part of a sum of two
pub part_sum : (n : ℕ) (f g : ℤ → ℤ) (s : PairSums) → IsPairSumOf n (plus f g) s → IsPairSumOf n (coefficients (residues_of q n (plus f g))) s
part_sum n f g s h = pair_sum_low n (plus f g) (coefficients (residues_of q n (plus f g))) s (λ k l. cong-sym q (residues_agree_low n (plus f g) k l)) h

pub sums_are : (n : ℕ) (c d : Ciphertext) (c₀ c₁ : PairSums) → IsDegree n → IsOfDegree n c → IsPairSumOf n (plus (coefficients c.c0) (coefficients d.c0)) c₀ → IsPairSumOf n (plus (coefficients c.c1) (coefficients d.c1)) c₁
    → IsCipherSumOf (ciphertext_sum c d) (record { degree = n; c0 = c₀; c1 = c₁ })
sums_are n c d c₀ c₁ deg h x y = record {
  cipher = ciphertext_sum-IsOfDegree n c d deg h.degree;
  c0 = subst (λ (v : Ciphertext). IsPairSumOf n (coefficients v.c0) c₀) (sym (sum-parts n c d h.degree)) (part_sum n (coefficients c.c0) (coefficients d.c0) c₀ x);
  c1 = subst (λ (v : Ciphertext). IsPairSumOf n (coefficients v.c1) c₁) (sym (sum-parts n c d h.degree)) (part_sum n (coefficients c.c1) (coefficients d.c1) c₁ y);
}

-- the parts of a ciphertext of degree n go on beyond it
pub c0_wrapped : (n : ℕ) (c : Ciphertext) → IsOfDegree n c → IsWrapped n (coefficients c.c0)
c0_wrapped n c h = subst (λ (k : ℕ). IsWrapped k (coefficients c.c0)) h.degree (c0-IsWrapped c h.cipher)

pub c1_wrapped : (n : ℕ) (c : Ciphertext) → IsOfDegree n c → IsWrapped n (coefficients c.c1)
c1_wrapped n c h = subst (λ (k : ℕ). IsWrapped k (coefficients c.c1)) h.degree (c1-IsWrapped c h.cipher)

product-parts : (n : ℕ) (a : Ciphertext) (p : List ℕ) → ciphertext_degree a ≡ n → plain_product a p ≡ record {
  c0 = residues_of q n (product n (coefficients a.c0) (centred_coefficients p));
  c1 = residues_of q n (product n (coefficients a.c1) (centred_coefficients p));
}
unfolding plain_product
product-parts n a p e t = record {
  c0 = residues_of q (e t) (product (e t) (coefficients a.c0) (centred_coefficients p));
  c1 = residues_of q (e t) (product (e t) (coefficients a.c1) (centred_coefficients p));
}

-- one part of a product that was added
part_product : (n : ℕ) (f a b : ℤ → ℤ) (old new : PairSums) (va vb : PairValues) → IsDegree n → IsWrapped n b → IsPairSumOf n f old → IsSpectrumOf n a va → IsSpectrumOf n b vb → IsPairSumWith old va vb new
    → IsPairSumOf n (plus f (coefficients (residues_of q n (product n a b)))) new
unfolding plus
part_product n f a b old new va vb d w h u v s =
    pair_sum_low n (plus f (product n a b)) (plus f (coefficients (residues_of q n (product n a b)))) new
    (λ k l. cong-add q (cong-refl q (f (pos k))) (cong-sym q (residues_agree_low n (product n a b) k l)))
    (gathered_with n f a b old new va vb d w h u v s)

plain-IsWrapped : (n : ℕ) (xs : List ℕ) → 0 < n → length xs ≡ n → IsWrapped n (centred_coefficients xs)
plain-IsWrapped n xs z e = subst (λ (k : ℕ). IsWrapped k (centred_coefficients xs)) e (centred_IsWrapped xs (subst (λ (k : ℕ). 0 < k) (sym e) z))

pub product_are : (s : CipherSums) (c₀ c₁ : PairSums) (turned : CipherValues) (plain : PairValues) (c a : Ciphertext) (p : List ℕ) → IsDegree s.degree → IsCipherSumOf c s → AreCipherValues s.degree a turned → ArePlainValues s.degree p plain
    → IsPairSumWith s.c0 turned.c0 plain c₀ → IsPairSumWith s.c1 turned.c1 plain c₁ → IsCipherSumOf (ciphertext_sum c (plain_product a p)) (record { degree = s.degree; c0 = c₀; c1 = c₁ })
product_are s c₀ c₁ turned plain c a p d h u v x y =
    let n = s.degree in
    let w = plain-IsWrapped n p (degree_positive n d) v.len in
    sums_are n c (plain_product a p) c₀ c₁ d h.cipher
    (subst (λ (z : Ciphertext). IsPairSumOf n (plus (coefficients c.c0) (coefficients z.c0)) c₀) (sym (product-parts n a p u.degree))
    (part_product n (coefficients c.c0) (coefficients a.c0) (centred_coefficients p) s.c0 c₀ turned.c0 plain d w h.c0 u.c0 v.values x))
    (subst (λ (z : Ciphertext). IsPairSumOf n (plus (coefficients c.c1) (coefficients z.c1)) c₁) (sym (product-parts n a p u.degree))
    (part_product n (coefficients c.c1) (coefficients a.c1) (centred_coefficients p) s.c1 c₁ turned.c1 plain d w h.c1 u.c1 v.values y))

-- one product more, as sums
abbrev with_cipher : CipherSums → CipherValues → PairValues → CipherSums
with_cipher s turned plain = record { degree = s.degree; c0 = with_pair s.c0 turned.c0 plain; c1 = with_pair s.c1 turned.c1 plain }

next_are : (s : CipherSums) (turned : CipherValues) (plain : PairValues) (c a : Ciphertext) (p : List ℕ) → IsDegree s.degree → IsCipherSumOf c s → AreCipherValues s.degree a turned → ArePlainValues s.degree p plain
    → IsCipherSumOf (ciphertext_sum c (plain_product a p)) (with_cipher s turned plain)
next_are s turned plain c a p d h u v = product_are s (with_pair s.c0 turned.c0 plain) (with_pair s.c1 turned.c1 plain) turned plain c a p d h u v (with_pair-is s.c0 turned.c0 plain) (with_pair-is s.c1 turned.c1 plain)

-- three products that were added in one pass
pub three_are : (s : CipherSums) (c₀ c₁ : PairSums) (t₁ t₂ t₃ : CipherValues) (v₁ v₂ v₃ : PairValues) (c a₁ a₂ a₃ : Ciphertext) (p₁ p₂ p₃ : List ℕ) → IsDegree s.degree → IsCipherSumOf c s
    → AreCipherValues s.degree a₁ t₁ → ArePlainValues s.degree p₁ v₁ → AreCipherValues s.degree a₂ t₂ → ArePlainValues s.degree p₂ v₂
    → AreCipherValues s.degree a₃ t₃ → ArePlainValues s.degree p₃ v₃
    → IsPairSumWithAll s.c0 ((t₁.c0, v₁) ∷ (t₂.c0, v₂) ∷ (t₃.c0, v₃) ∷ []) c₀ → IsPairSumWithAll s.c1 ((t₁.c1, v₁) ∷ (t₂.c1, v₂) ∷ (t₃.c1, v₃) ∷ []) c₁
    → IsCipherSumOf (three_added c a₁ a₂ a₃ p₁ p₂ p₃) (record { degree = s.degree; c0 = c₀; c1 = c₁ })
three_are s c₀ c₁ t₁ t₂ t₃ v₁ v₂ v₃ c a₁ a₂ a₃ p₁ p₂ p₃ d h x₁ y₁ x₂ y₂ x₃ y₃ f g =
    let s₁ = with_cipher s t₁ v₁ in
    let s₂ = with_cipher s₁ t₂ v₂ in
    product_are s₂ c₀ c₁ t₃ v₃ _ a₃ p₃ d (next_are s₁ t₂ v₂ _ a₂ p₂ d (next_are s t₁ v₁ c a₁ p₁ d h x₁ y₁) x₂ y₂) x₃ y₃
    (last_of_pairs s₂.c0 t₃.c0 v₃ c₀ (first_of_pairs s₁.c0 t₂.c0 v₂ c₀ _ (first_of_pairs s.c0 t₁.c0 v₁ c₀ _ f)))
    (last_of_pairs s₂.c1 t₃.c1 v₃ c₁ (first_of_pairs s₁.c1 t₂.c1 v₂ c₁ _ (first_of_pairs s.c1 t₁.c1 v₁ c₁ _ g)))

-- the ciphertext that a sum is
pub cipher_is : (s : CipherSums) (c r : Ciphertext) → IsCipherSumOf c s → r.c0 ≡ residues_of q s.degree (coefficients c.c0) → r.c1 ≡ residues_of q s.degree (coefficients c.c1) → r ≡ c
cipher_is s c r h e f t = record {
  c0 = (e ∙ own s.degree c.c0 h.cipher.cipher.c0 h.cipher.degree) t;
  c1 = (f ∙ own s.degree c.c1 h.cipher.cipher.c1 (h.cipher.cipher.one_degree ∙ h.cipher.degree)) t;
}

module _ (s : CipherSums) (c₀ c₁ : PairSums) (c : Ciphertext) (e : length s.c0.first ≡ s.degree) (f : length s.c1.first ≡ s.degree) (h : IsCipherSumOf c s) where
  -- both parts were reduced
  pub room_made : ((p : ℤ → ℤ) → IsWrapped (length s.c0.first) p → IsPairSumOf (length s.c0.first) p s.c0 → IsPairSumOf (length s.c0.first) p c₀)
      → ((p : ℤ → ℤ) → IsWrapped (length s.c1.first) p → IsPairSumOf (length s.c1.first) p s.c1 → IsPairSumOf (length s.c1.first) p c₁)
      → IsCipherSumOf c (record { degree = s.degree; c0 = c₀; c1 = c₁ })
  room_made x y = record {
    cipher = h.cipher;
    c0 = subst (λ (n : ℕ). (p : ℤ → ℤ) → IsWrapped n p → IsPairSumOf n p s.c0 → IsPairSumOf n p c₀) e x (coefficients c.c0) (c0_wrapped s.degree c h.cipher) h.c0;
    c1 = subst (λ (n : ℕ). (p : ℤ → ℤ) → IsWrapped n p → IsPairSumOf n p s.c1 → IsPairSumOf n p c₁) f y (coefficients c.c1) (c1_wrapped s.degree c h.cipher) h.c1;
  }

  -- both parts of another sum were added
  pub both_added : (t : CipherSums) (d : Ciphertext) → IsDegree s.degree → t.degree ≡ s.degree → IsCipherSumOf d t
      → ((a b : ℤ → ℤ) → IsWrapped (length s.c0.first) b → IsPairSumOf (length s.c0.first) a s.c0 → IsPairSumOf (length s.c0.first) b t.c0 → IsPairSumOf (length s.c0.first) (plus a b) c₀)
      → ((a b : ℤ → ℤ) → IsWrapped (length s.c1.first) b → IsPairSumOf (length s.c1.first) a s.c1 → IsPairSumOf (length s.c1.first) b t.c1 → IsPairSumOf (length s.c1.first) (plus a b) c₁)
      → IsCipherSumOf (ciphertext_sum c d) (record { degree = s.degree; c0 = c₀; c1 = c₁ })
  both_added t d deg same g x y =
      let other = subst (λ (n : ℕ). IsOfDegree n d) same g.cipher in
      sums_are s.degree c d c₀ c₁ deg h.cipher
      (subst (λ (n : ℕ). (a b : ℤ → ℤ) → IsWrapped n b → IsPairSumOf n a s.c0 → IsPairSumOf n b t.c0 → IsPairSumOf n (plus a b) c₀) e x (coefficients c.c0) (coefficients d.c0) (c0_wrapped s.degree d other) h.c0
      (subst (λ (n : ℕ). IsPairSumOf n (coefficients d.c0) t.c0) same g.c0))
      (subst (λ (n : ℕ). (a b : ℤ → ℤ) → IsWrapped n b → IsPairSumOf n a s.c1 → IsPairSumOf n b t.c1 → IsPairSumOf n (plus a b) c₁) f y (coefficients c.c1) (coefficients d.c1) (c1_wrapped s.degree d other) h.c1
      (subst (λ (n : ℕ). IsPairSumOf n (coefficients d.c1) t.c1) same g.c1))

-- the same of what turns both parts back
pub cipher_at : (s : CipherSums) (n : ℕ) (c r : Ciphertext) → s.degree ≡ n → IsCipherSumOf c s → ((f : ℤ → ℤ) → IsPairSumOf n f s.c0 → r.c0 ≡ residues_of q n f) → ((f : ℤ → ℤ) → IsPairSumOf n f s.c1 → r.c1 ≡ residues_of q n f) → r ≡ c
cipher_at s n c r e h x y =
    cipher_is s c r h
    (subst (λ (m : ℕ). (f : ℤ → ℤ) → IsPairSumOf m f s.c0 → r.c0 ≡ residues_of q m f) (sym e) x (coefficients c.c0) h.c0)
    (subst (λ (m : ℕ). (f : ℤ → ℤ) → IsPairSumOf m f s.c1 → r.c1 ≡ residues_of q m f) (sym e) y (coefficients c.c1) h.c1)
