-- Sums of products in the order of the leaves, and in the order of k.
use Rattle.std.proofs.Common.{◌≡◌, ℕ, ◌+◌, ◌*◌, ◌%◌, ◌<◌, ◌≤◌, ◌^◌, List, [], ◌∷◌, ◌++◌, map, length, take, drop, get_or, replicate, arith, refl, sym, ap, subst, ◌∙◌, ⊎_elim, ℤ, pos, negsuc, ◌+ℤ◌, ◌*ℤ◌}
use Rattle.std.specs.List.{range_with_len}
use Rattle.std.proofs.lemmas.List.FromFn.{length-map-range_with_len, get_or-map-range_with_len}
use Rattle.std.proofs.lemmas.List.{length-replicate, get_or-replicate, get_or_past}
use Rattle.std.proofs.lemmas.Bool.{cases_lt}
use Rattle.std.proofs.lemmas.Nat.{mod_below}
use Rattle.co_math.specs.Residues.{Congruent}
use Rattle.co_math.specs.Polynomials.{IsWrapped, plus, product}
use Rattle.co_math.specs.Powers.{power, root}
use Rattle.co_math.specs.Values.{value_at}
use Rattle.co_math.proofs.Residues.{cong_from, cong-trans, cong-sym, cong-add, cong-mul, cong-refl, residue-same}
use Rattle.co_math.proofs.Reduced.{remainder-is, residue_of}
use Rattle.co_math.proofs.Evaluations.{value-product}
use Rattle.co_math.specs.Exponents.{bit_reversal}
use Rattle.co_transform.specs.Trees.{AreWithin, HaveResidues}
use Rattle.co_transform.specs.Gathered.{Gathered, GatheredAll, products_at}
use Rattle.co_transform.proofs.Reversals.{bit_reversal-lt}
use Rattle.co_ring.specs.declared.moduli.Modulus.{Modulus}
use Rattle.co_ring.specs.Moduli.{value_of}
use Rattle.co_ring.specs.Spectra.{in_order, AreLeaves, AreValues}
use Rattle.co_ring.specs.Product_sums.{Sums, AreSumLeaves, AreSumsOf, AreSumsWith, AreSumsWithAll, AreReduced, AreZeros, most_products}
use Rattle.co_ring.proofs.Keeping.{value-positive, written_back}
use Rattle.co_ring.proofs.Orderings.{in_order-length, in_order-get, view_length, value-zero, odd_minus, values_add}

pub reduced_in_order : (l m v : ℕ) (sums ys : List ℕ) → m ≡ v → length sums ≡ 2 ^ l → HaveResidues m sums ys → AreReduced v (in_order l sums) (in_order l ys)
reduced_in_order l m v sums ys e len h = record {
  len = in_order-length l ys ∙ sym (in_order-length l sums);
  each = λ k u.
      let w : k < 2 ^ l = omega (arith, u, in_order-length l sums) in
      in_order-get l k ys w ∙ h.each (bit_reversal l k) (omega (arith, bit_reversal-lt l k, len)) ∙ (λ i. sym (in_order-get l k sums w) i % e i);
}

pub reduced_leaves : (modulus : Modulus) (l m : ℕ) (sums xs ys : List ℕ) → AreLeaves modulus l xs → m ≡ value_of modulus → length sums ≡ 2 ^ l → HaveResidues m sums ys → AreLeaves modulus l ys
reduced_leaves modulus l m sums xs ys h e len r = record {
  least = h.least;
  most = h.most;
  len = r.len ∙ len;
  below = λ p u. subst (λ (k : ℕ). k < value_of modulus) (sym (r.each p (omega (arith, u, r.len)) ∙ ap (λ k. get_or sums p 0 % k) e)) (mod_below (get_or sums p 0) (value_of modulus) (value-positive modulus));
}

-- zeros
pub none_is : (n : ℕ) (xs : List ℕ) → xs ≡ replicate n 0 → (i : ℕ) → get_or xs i 0 ≡ 0
none_is n xs e i = ap (λ ys. get_or ys i 0) e ∙ ⊎_elim (λ u. get_or-replicate n i 0 0 u) (λ u. get_or_past (replicate n 0) i 0 (omega (arith, u, length-replicate {A = ℕ} n 0))) (cases_lt i n)

-- the sums of no products are the values of 0
pub sums_none : (m n : ℕ) (xs : List ℕ) → AreZeros n xs → AreSumsOf m n (λ _. pos 0) xs
sums_none m n xs h = record {
  len = h.len;
  each = λ k u. cong_from m (ap pos (h.each k u) ∙ sym (value-zero n (power (pos (root m n)) (2 * k + 1))));
}

-- with the values of f and of g, a sum gains the values of their product
pub sums_with : (m n : ℕ) (e f g : ℤ → ℤ) (old a b new : List ℕ) → 0 < m → 0 < n → IsWrapped n g → Congruent m (power (pos (root m n)) n) (negsuc 0)
    → AreSumsOf m n e old → AreValues m n f a → AreValues m n g b → AreSumsWith old a b new → AreSumsOf m n (plus e (product n f g)) new
sums_with m n e f g old a b new z p w minus ve va vb s = record {
  len = s.len ∙ ve.len;
  each = λ k u.
      let x = power (pos (root m n)) (2 * k + 1) in
      cong-trans m (cong_from m (ap pos (s.each k (omega (arith, u, ve.len))) ∙ apart (get_or old k 0) (get_or a k 0) (get_or b k 0)))
      (cong-trans m (cong-add m (ve.each k u) (cong-mul m (residue_of m (get_or a k 0) (value_at n f x) z (va.each k u)) (residue_of m (get_or b k 0) (value_at n g x) z (vb.each k u))))
      (cong-trans m (cong-add m (cong-refl m (value_at n e x)) (cong-sym m (value-product m n f g x p w (odd_minus m n k (pos (root m n)) minus))))
      (cong_from m (sym (values_add n e (product n f g) x)))));
}
  where
    apart : (s x y : ℕ) → pos (s + x * y) ≡ pos s +ℤ pos x *ℤ pos y
    apart s x y = refl

-- reduced, the sums are values
pub sums_reduced : (m n : ℕ) (f : ℤ → ℤ) (sums values : List ℕ) → 0 < m → AreSumsOf m n f sums → AreReduced m sums values → AreValues m n f values
sums_reduced m n f sums values z h r = record {
  len = r.len ∙ h.len;
  each = λ k u.
      let x = power (pos (root m n)) (2 * k + 1) in
      r.each k (omega (arith, u, h.len)) ∙ remainder-is m (get_or sums k 0) ∙ residue-same m (pos (get_or sums k 0)) (value_at n f x) z (h.each k u);
}

-- pairs of lists in the order of k
abbrev pub all_ordered : ℕ → List (List ℕ × List ℕ) → List (List ℕ × List ℕ)
all_ordered l [] = []
all_ordered l (p ∷ ps) = (in_order l p.0, in_order l p.1) ∷ all_ordered l ps

ordered_at : (l k : ℕ) (pairs : List (List ℕ × List ℕ)) → k < 2 ^ l → products_at (all_ordered l pairs) k ≡ products_at pairs (bit_reversal l k)
ordered_at l k [] u = refl
ordered_at l k (p ∷ ps) u = (λ i. in_order-get l k p.0 u i * in_order-get l k p.1 u i + ordered_at l k ps u i)

-- the products of several pairs were added, in the order of k
pub gathered_all_in_order : (l : ℕ) (xs old ys sums : List ℕ) (pairs views : List (List ℕ × List ℕ)) → in_order l xs ≡ sums → length xs ≡ 2 ^ l → old ≡ xs → all_ordered l pairs ≡ views
    → GatheredAll old pairs (length old) ys → AreSumsWithAll sums views (in_order l ys)
gathered_all_in_order l xs old ys sums pairs views own size same views_are g =
    let n : length old ≡ 2 ^ l = ap length same ∙ size in
    let whole = view_length l xs sums own in
    record {
      len = in_order-length l ys ∙ sym whole;
      each = λ k u.
          let w : k < 2 ^ l = omega (arith, u, whole) in
          in_order-get l k ys w ∙ g.done (bit_reversal l k) (omega (arith, bit_reversal-lt l k, n))
          ∙ (λ i. sym (in_order-get l k old w) i + sym (ordered_at l k pairs w) i)
          ∙ (λ i. get_or (in_order l (same i)) k 0 + products_at (views_are i) k)
          ∙ ap (λ (zs : List ℕ). get_or zs k 0 + products_at views k) own;
    }

-- a sum with its leaves as a slice, and the number of its modulus
pub record IsHeld (s : Sums) (modulus : Modulus) (l count m n : ℕ) (xs old : List ℕ) : Type 0 where
  pub kept : AreSumLeaves modulus l count xs
  pub view : s ≡ record { modulus = modulus; count = count; values = in_order l xs }
  pub value : m ≡ value_of modulus
  pub same : old ≡ xs
  pub len : length old ≡ n

pub held : {s : Sums} {modulus : Modulus} {l count m n : ℕ} {xs old : List ℕ} → AreSumLeaves modulus l count xs → record { modulus = modulus; count = count; values = in_order l xs } ≡ s → m ≡ value_of modulus → old ≡ xs → length old ≡ n
    → IsHeld s modulus l count m n xs old
held kept view value same len = record { kept = kept; view = sym view; value = value; same = same; len = len }

module _ {s : Sums} {modulus : Modulus} {l count m n : ℕ} {xs old : List ℕ} (h : IsHeld s modulus l count m n xs old) where
  own : in_order l xs ≡ s.values
  own = sym (ap (λ (z : Sums). z.values) h.view)

  pub held_size : length s.values ≡ 2 ^ l
  held_size = view_length l xs s.values own

  -- the leaves of a spectrum are as many as those of the sum, and below the modulus
  pub leaves_fit : (values leaves : List ℕ) → length values ≡ length s.values → length leaves ≡ length values → length leaves ≡ length old
  leaves_fit values leaves one e = e ∙ one ∙ held_size ∙ sym h.kept.len ∙ sym (ap length h.same)

  pub leaves_below : (its : Modulus) (leaves : List ℕ) → its ≡ s.modulus → AreWithin (value_of its) leaves → AreWithin m leaves
  leaves_below its leaves e w = subst (λ (k : ℕ). AreWithin k leaves) (ap value_of (e ∙ ap (λ (z : Sums). z.modulus) h.view) ∙ sym h.value) w

  -- how large the leaves of the sum are, before and after some products more
  pub leaves_within : AreWithin (count * (m * m)) old
  leaves_within = subst (AreWithin (count * (m * m))) (sym h.same) (subst (λ (k : ℕ). AreWithin (count * (k * k)) xs) (sym h.value) h.kept.within)

  pub written_leaves : (more : ℕ) (ys : List ℕ) → length ys ≡ length old → s.count + more ≤ most_products → AreWithin ((count + more) * (m * m)) ys → AreSumLeaves modulus l (count + more) (take n (ys ++ drop (length ys) xs))
  written_leaves more ys len few w = subst (AreSumLeaves modulus l (count + more)) (sym (written_back n xs ys (len ∙ h.len))) (record {
    least = h.kept.least;
    most = h.kept.most;
    len = len ∙ ap length h.same ∙ h.kept.len;
    few = omega (arith, few, ap (λ (z : Sums). z.count) h.view);
    within = subst (λ (k : ℕ). AreWithin ((count + more) * (k * k)) ys) h.value w;
  })

  -- the products that were written back, in the order of k
  pub written_in_order : (ys : List ℕ) (pairs views : List (List ℕ × List ℕ)) → all_ordered l pairs ≡ views → GatheredAll old pairs (length old) ys → AreSumsWithAll s.values views (in_order l (take n (ys ++ drop (length ys) xs)))
  written_in_order ys pairs views views_are g =
      subst (λ (zs : List ℕ). AreSumsWithAll s.values views (in_order l zs)) (sym (written_back n xs ys (g.len ∙ h.len)))
      (gathered_all_in_order l xs old ys s.values pairs views own h.kept.len h.same views_are g)

-- one product more, as a list
pub with_product : List ℕ → List ℕ → List ℕ → List ℕ
with_product old a b = map (λ k. get_or old k 0 + get_or a k 0 * get_or b k 0) (range_with_len 0 (length old))

with-length : (old a b : List ℕ) → length (with_product old a b) ≡ length old
unfolding with_product
with-length old a b = length-map-range_with_len (λ k. get_or old k 0 + get_or a k 0 * get_or b k 0) 0 (length old)

with-get : (old a b : List ℕ) (k : ℕ) → k < length old → get_or (with_product old a b) k 0 ≡ get_or old k 0 + get_or a k 0 * get_or b k 0
unfolding with_product
with-get old a b k u = let e : 0 + k ≡ k = omega arith in get_or-map-range_with_len (λ k. get_or old k 0 + get_or a k 0 * get_or b k 0) 0 (length old) k k 0 u e

pub with_product-is : (old a b : List ℕ) → AreSumsWith old a b (with_product old a b)
with_product-is old a b = record { len = with-length old a b; each = with-get old a b }

-- several products are the first of them, and then the rest
pub first_of_all : (old a b new : List ℕ) (pairs : List (List ℕ × List ℕ)) → AreSumsWithAll old ((a, b) ∷ pairs) new → AreSumsWithAll (with_product old a b) pairs new
first_of_all old a b new pairs h = record {
  len = h.len ∙ sym (with-length old a b);
  each = λ k u. let w : k < length old = omega (arith, u, with-length old a b) in omega (arith, h.each k w, with-get old a b k w);
}

pub last_of_all : (old a b new : List ℕ) → AreSumsWithAll old ((a, b) ∷ []) new → AreSumsWith old a b new
last_of_all old a b new h = record { len = h.len; each = λ k u. omega (arith, h.each k u) }

-- one product is several of one pair
pub as_all : (old a b sums : List ℕ) (n : ℕ) → Gathered old a b n sums → GatheredAll old ((a, b) ∷ []) n sums
as_all old a b sums n g = record { len = g.len; done = λ k u. omega (arith, g.done k u); rest = g.rest }
