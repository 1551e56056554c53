-- The steps of a switch.
use Rattle.std.proofs.Common.{◌≡◌, ℕ, ◌+◌, ◌<◌, refl, sym, ap, subst, ◌∙◌, arith, ℤ, pos, ◌+ℤ◌, List, [], ◌∷◌, length, get_or, add-one}
use Rattle.rand_core.specs.Stream.{Stream}
use Rattle.co_math.specs.Parameters.{q, digit_base, digit_count}
use Rattle.co_math.specs.Residues.{Congruent}
use Rattle.co_math.specs.Sums.{total}
use Rattle.co_math.specs.Coefficients.{coefficients, AreResidues, IsDegree, residues_of, signed_coefficients}
use Rattle.co_math.specs.Polynomials.{IsWrapped, product, plus, minus, substitution}
use Rattle.co_math.proofs.Residues.{cong-refl, cong_from, cong-trans, cong-add, cong-neg}
use Rattle.co_math.proofs.Reduced.{residue_of}
use Rattle.co_math.proofs.Totals.{total-zero, total-suc}
use Rattle.co_math.proofs.Terms.{coefficient-low}
use Rattle.co_math.proofs.Places.{coefficients-IsWrapped}
use Rattle.co_rns.specs.Residue_pairs.{AreDigits}
use Rattle.co_math.proofs.Degrees.{degree_positive}
use Rattle.co_math.proofs.Residue_lists.{residues_of-is, length-residues_of, residues_of-same, residues_of-at}
use Rattle.co_bfv.specs.Draws.{uniform_draw, error_draw}
use Rattle.co_bfv.specs.Ciphertexts.{Ciphertext, IsCiphertext, ciphertext_degree}
use Rattle.co_switch.specs.Keys.{Key, AreSpectra, part}
use Rattle.co_rns.specs.Spectra.{PairValues, PairSums, IsSpectrumOf, IsNoPairSum, IsPairSumWith, IsPairSumWithAll, IsPairSumOf}
use Rattle.co_rns.proofs.Spectra_agree.{gathered_none, gathered_with, with_pair, with_pair-is, first_of_pairs, last_of_pairs}
use Rattle.co_switch.specs.Switches.{digit_polynomial, digit_sum, automorphism, switched}
use Rattle.co_switch.proofs.Digitwise.{length-digit_polynomial, digit-at}

-- the polynomial of the digits has the digits
pub digits_are : (j : ℕ) (xs : List ℕ) → AreDigits digit_base j xs (digit_polynomial j xs)
digits_are j xs = record { len = length-digit_polynomial j xs; each = λ k l. digit-at j xs k l }

pub digit_spectrum : (n i : ℕ) (xs whole : List ℕ) (v : PairValues) → whole ≡ xs → ((ds : List ℕ) → AreDigits digit_base i whole ds → IsSpectrumOf n (coefficients ds) v) → IsSpectrumOf n (coefficients (digit_polynomial i xs)) v
digit_spectrum n i xs whole v e h = h (digit_polynomial i xs) (subst (λ (ys : List ℕ). AreDigits digit_base i ys (digit_polynomial i xs)) (sym e) (digits_are i xs))

-- the sum over the first digits
unfoldable pub digits_to : ℕ → List ℕ → List (List ℕ) → ℤ → ℤ
digits_to i xs ks k = total i (λ j. product (length xs) (coefficients (digit_polynomial j xs)) (coefficients (part ks j)) k)

-- what is summed up once the first digits are done, whatever polynomials have these values
pub record AreGathered (n i : ℕ) (xs : List ℕ) (values : List PairValues) (s : PairSums) : Type 0 where
  pub sums : (ks : List (List ℕ)) → AreSpectra n ks values → IsPairSumOf n (digits_to i xs ks) s
  pub counted : s.count ≡ i
  pub len : length s.first ≡ n

pub gathered_first : (n : ℕ) (xs : List ℕ) (values : List PairValues) (s : PairSums) → IsNoPairSum n s → AreGathered n 0 xs values s
unfolding digits_to
gathered_first n xs values s h = record {
  sums = λ ks v.
      subst (λ (f : ℤ → ℤ). IsPairSumOf n f s) (λ t k. sym (total-zero (λ j. product (length xs) (coefficients (digit_polynomial j xs)) (coefficients (part ks j)) k)) t) (gathered_none n s h);
  counted = h.none;
  len = let z = h.first_zeros in z.len;
}

more : (n i : ℕ) (xs : List ℕ) (ks : List (List ℕ)) (k : ℤ) → length xs ≡ n
    → plus (digits_to i xs ks) (product n (coefficients (digit_polynomial i xs)) (coefficients (part ks i))) k ≡ digits_to (i + 1) xs ks k
unfolding plus digits_to
more n i xs ks k e =
    ap (λ l. total i (λ j. product (length xs) (coefficients (digit_polynomial j xs)) (coefficients (part ks j)) k) +ℤ product l (coefficients (digit_polynomial i xs)) (coefficients (part ks i)) k) (sym e)
    ∙ sym (total-suc i (λ j. product (length xs) (coefficients (digit_polynomial j xs)) (coefficients (part ks j)) k))
    ∙ ap (λ m. total m (λ j. product (length xs) (coefficients (digit_polynomial j xs)) (coefficients (part ks j)) k)) (sym (add-one i))

pub gathered_more : (n i : ℕ) (xs : List ℕ) (values : List PairValues) (old new : PairSums) (digit key d : PairValues) → IsDegree n → length xs ≡ n → i < digit_count → AreGathered n i xs values old
    → IsSpectrumOf n (coefficients (digit_polynomial i xs)) digit → key ≡ get_or values i d → IsPairSumWith old digit key new → AreGathered n (i + 1) xs values new
gathered_more n i xs values old new digit key d whole e l h v is s = record {
  sums = λ ks spectra.
      let z = degree_positive n whole in
      let deg = spectra.degree i l in
      let w = subst (λ (m : ℕ). IsWrapped m (coefficients (part ks i))) deg (coefficients-IsWrapped (part ks i) (omega (arith, deg, z))) in
      subst (λ (f : ℤ → ℤ). IsPairSumOf n f new) (λ t k. more n i xs ks k e t)
      (gathered_with n (digits_to i xs ks) (coefficients (digit_polynomial i xs)) (coefficients (part ks i)) old new digit key whole w (h.sums ks spectra) v
      (subst (λ (y : PairValues). IsSpectrumOf n (coefficients (part ks i)) y) (sym is) (spectra.each i d l)) s);
  counted = s.one_more ∙ ap (λ m. m + 1) h.counted;
  len = let f = s.first_sums in f.len ∙ h.len;
}

-- three digits in one pass
pub gathered_three : (n i : ℕ) (xs : List ℕ) (values : List PairValues) (old new : PairSums) (low middle high d : PairValues) → IsDegree n → length xs ≡ n → i + 2 < digit_count → AreGathered n i xs values old
    → IsSpectrumOf n (coefficients (digit_polynomial i xs)) low → IsSpectrumOf n (coefficients (digit_polynomial (i + 1) xs)) middle → IsSpectrumOf n (coefficients (digit_polynomial (i + 2) xs)) high
    → IsPairSumWithAll old ((low, get_or values i d) ∷ (middle, get_or values (i + 1) d) ∷ (high, get_or values (i + 2) d) ∷ []) new → AreGathered n (i + 3) xs values new
gathered_three n i xs values old new low middle high d whole e l h u v w s =
    let a = get_or values i d in
    let b = get_or values (i + 1) d in
    let c = get_or values (i + 2) d in
    let one = with_pair old low a in
    let two = with_pair one middle b in
    let up : i + 1 + 1 ≡ i + 2 = omega arith in
    let end : i + 2 + 1 ≡ i + 3 = omega arith in
    let first : AreGathered n (i + 1) xs values one = gathered_more n i xs values old one low a d whole e (omega arith) h u refl (with_pair-is old low a) in
    let second : AreGathered n (i + 1 + 1) xs values two = gathered_more n (i + 1) xs values one two middle b d whole e (omega arith) first v refl (with_pair-is one middle b) in
    subst (λ (j : ℕ). AreGathered n j xs values new) end
    (gathered_more n (i + 2) xs values two new high c d whole e l (subst (λ (j : ℕ). AreGathered n j xs values two) up second) w refl
    (last_of_pairs two high c new (first_of_pairs one middle b new _ (first_of_pairs old low a new _ s))))

-- all digits
pub gathered_all : (n i : ℕ) (xs : List ℕ) (values : List PairValues) (s : PairSums) (ks : List (List ℕ)) → AreGathered n i xs values s → i ≡ digit_count → AreSpectra n ks values → IsPairSumOf n (digit_sum xs ks) s
unfolding digits_to digit_sum
gathered_all n i xs values s ks h e v = subst (λ (m : ℕ). IsPairSumOf n (digits_to m xs ks) s) e (h.sums ks v)

pub image-degree : (g : ℕ) (xs image : List ℕ) → image ≡ automorphism g xs → length image ≡ length xs
unfolding automorphism
image-degree g xs image e = ap length e ∙ length-residues_of q (length xs) (substitution (length xs) g (coefficients xs))

-- both parts of a switch
module _ (key : Key) (c : Ciphertext) (whole : IsCiphertext c) where
  image-at : (c₀ : List ℕ) (k : ℕ) → c₀ ≡ automorphism key.element c.c0 → k < length c.c0 → Congruent q (coefficients c₀ (pos k)) (substitution (length c.c0) key.element (coefficients c.c0) (pos k))
  unfolding automorphism
  image-at c₀ k e l = residues_of-at q (length c.c0) (substitution (length c.c0) key.element (coefficients c.c0)) c₀ k (omega arith) e l

  pub switched_is : (n : ℕ) (c₀ image first second new : List ℕ) → n ≡ ciphertext_degree c → c₀ ≡ automorphism key.element c.c0 → image ≡ automorphism key.element c.c1
      → first ≡ residues_of q n (digit_sum image key.k0) → second ≡ residues_of q n (digit_sum image key.k1)
      → AreResidues q (length c₀) (plus (coefficients c₀) (coefficients first)) new → record { c0 = new; c1 = second } ≡ switched key c
  unfolding switched plus
  switched_is n c₀ image first second new e a b f s r =
      λ t. record { c0 = part₀ t; c1 = (s ∙ (λ u. residues_of q (e u) (digit_sum (b u) key.k1))) t }
    where
      m : ℕ
      m = ciphertext_degree c

      first_is : first ≡ residues_of q m (digit_sum (automorphism key.element c.c1) key.k0)
      first_is = f ∙ (λ u. residues_of q (e u) (digit_sum (b u) key.k0))

      part₀ : new ≡ residues_of q m (plus (substitution m key.element (coefficients c.c0)) (digit_sum (automorphism key.element c.c1) key.k0))
      part₀ =
          residues_of-is q (length c₀) (plus (coefficients c₀) (coefficients first)) new r
          ∙ ap (λ l. residues_of q l (plus (coefficients c₀) (coefficients first))) (image-degree key.element c.c0 c₀ a)
          ∙ residues_of-same q m (plus (coefficients c₀) (coefficients first)) (plus (substitution m key.element (coefficients c.c0)) (digit_sum (automorphism key.element c.c1) key.k0)) (omega arith)
          (λ k l. cong-add q (image-at c₀ k a l) (residues_of-at q m (digit_sum (automorphism key.element c.c1) key.k0) first k (omega arith) first_is l))

-- residues are congruent to what they are the residues of
pub residues-at : (m n : ℕ) (f : ℤ → ℤ) (xs : List ℕ) (k : ℕ) → 0 < m → AreResidues m n f xs → k < n → Congruent m (coefficients xs (pos k)) (f (pos k))
residues-at m n f xs k p h l = cong-trans m (cong_from m (coefficient-low xs k (omega (arith, h.len)))) (residue_of m (get_or xs k 0) (f (pos k)) p (h.each k l))

-- e - f + hidden, step by step
pub pair_is : (n : ℕ) (e f : ℤ → ℤ) (hidden sum p r₁ r₂ : List ℕ) → sum ≡ residues_of q n e → p ≡ residues_of q n f
    → AreResidues q (length sum) (minus (coefficients sum) (coefficients p)) r₁ → AreResidues q (length r₁) (plus (coefficients r₁) (coefficients hidden)) r₂
    → r₂ ≡ residues_of q n (plus (minus e f) (coefficients hidden))
unfolding plus minus
pair_is n e f hidden sum p r₁ r₂ is has h₁ h₂ =
    residues_of-is q (length r₁) (plus (coefficients r₁) (coefficients hidden)) r₂ h₂
    ∙ ap (λ m. residues_of q m (plus (coefficients r₁) (coefficients hidden))) (h₁.len ∙ len)
    ∙ residues_of-same q n (plus (coefficients r₁) (coefficients hidden)) (plus (minus e f) (coefficients hidden)) (omega arith)
    (λ k l. cong-add q (cong-trans q (residues-at q (length sum) (minus (coefficients sum) (coefficients p)) r₁ k (omega arith) h₁ (omega (arith, len)))
    (cong-add q (residues_of-at q n e sum k (omega arith) is l) (cong-neg q (residues_of-at q n f p k (omega arith) has l)))) (cong-refl q (coefficients hidden (pos k))))
  where
    len : length sum ≡ n
    len = ap length is ∙ length-residues_of q n e

-- the same, by a drawn polynomial and the rest of the stream
pub drawn_pair : (n m : ℕ) (s now : Stream) (secret : List ℤ) (hidden x y pair : List ℕ) → y ≡ x → x ≡ (uniform_draw m s).0 → now ≡ (uniform_draw m s).1 → m ≡ n
    → pair ≡ residues_of q n (plus (minus (signed_coefficients (error_draw n now).0) (product n (coefficients y) (signed_coefficients secret))) (coefficients hidden))
    → pair ≡ residues_of q n (plus (minus (signed_coefficients (error_draw n (uniform_draw n s).1).0) (product n (coefficients (uniform_draw n s).0) (signed_coefficients secret))) (coefficients hidden))
drawn_pair n m s now secret hidden x y pair r e f i h =
    h
    ∙ (λ t. residues_of q n (plus (minus (signed_coefficients (error_draw n (rest t)).0) (product n (coefficients (uniform t)) (signed_coefficients secret))) (coefficients hidden)))
  where
    uniform : y ≡ (uniform_draw n s).0
    uniform = r ∙ e ∙ ap (λ k. (uniform_draw k s).0) i

    rest : now ≡ (uniform_draw n s).1
    rest = f ∙ ap (λ k. (uniform_draw k s).1) i
