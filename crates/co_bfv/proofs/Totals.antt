-- Sums of ciphertexts: one after another, sums of sums, and what they mean.
use Rattle.std.proofs.Common.{◌≡◌, ℕ, zero, suc, ◌+◌, ◌*◌, ◌<◌, ◌≤◌, refl, sym, ap, subst, ◌∙◌, arith, ℤ, pos, ◌+ℤ◌, ◌-ℤ◌, ◌*ℤ◌, List, length, get_or}
use lib.IntN.{neg_ℤ}
use Rattle.co_math.specs.Sums.{total}
use Rattle.co_math.specs.Polynomials.{plus, product}
use Rattle.co_math.specs.Coefficients.{coefficients, IsDegree, residues_of}
use Rattle.co_math.proofs.Residues.{residue-is, residue-same, residue_small, cong-add, cong-refl, cong-sym, cong-trans, cong-total, cong_from}
use Rattle.co_math.specs.Residues.{Congruent}
use Rattle.co_math.specs.Meanings.{phase, Means}
use Rattle.co_math.proofs.Integers.{expand, linear, zero-mul}
use Rattle.co_math.proofs.Totals.{total-none, total-same}
use Rattle.co_math.proofs.Agreements.{Agree}
use Rattle.co_math.proofs.Meanings.{means_by, cong-times}
use Rattle.co_math.proofs.Terms.{coefficient-low}
use Rattle.co_math.proofs.Switches.{sums}
use Rattle.co_math.specs.Parameters.{q}
use Rattle.co_rns.specs.Residue_pairs.{centred_coefficients}
use Rattle.co_rns.specs.Pairs.{IsWhole}
use Rattle.co_bfv.specs.Ciphertexts.{Ciphertext, IsCiphertext, ciphertext_degree, MeansWithin, zero_ciphertext, ciphertext_sum, plain_product}
use Rattle.co_math.proofs.Degrees.{degree_positive}
use Rattle.co_math.proofs.Residue_lists.{residues_of-agree, residues_of-are, residues_of-is, length-residues_of}
use Rattle.co_bfv.proofs.Meant.{means_more, phases_agree}
use Rattle.co_bfv.proofs.Combined.{whole_pair, sum-degree, sum_means}
use Rattle.co_bfv.specs.Totals.{IsOfDegree, ciphertext_total}

pub ciphertext_total-zero : (n : ℕ) (f : ℕ → Ciphertext) → ciphertext_total n 0 f ≡ zero_ciphertext n
unfolding ciphertext_total zero_ciphertext total
ciphertext_total-zero n f = refl

-- polynomials that agree modulo q at the first n places have the same residues
pub residues_same : (n : ℕ) (f g : ℤ → ℤ) → ((k : ℕ) → k < n → Congruent q (f (pos k)) (g (pos k))) → residues_of q n f ≡ residues_of q n g
residues_same n f g same = let r = residues_of-are q n f in residues_of-is q n g (residues_of q n f) (record {
  len = r.len;
  each = λ k l. r.each k l ∙ residue-same q (f (pos k)) (g (pos k)) (omega arith) (same k l);
})

-- the residues of f agree with it modulo q at the first n places
pub residues_agree_low : (n : ℕ) (f : ℤ → ℤ) (k : ℕ) → k < n → Congruent q (coefficients (residues_of q n f) (pos k)) (f (pos k))
residues_agree_low n f k l = let r = residues_of-are q n f in
    cong-trans q (cong_from q (coefficient-low (residues_of q n f) k (omega (arith, r.len)) ∙ ap pos (r.each k l))) (residue-is q (f (pos k)) (omega arith))

-- one more summand, in a list of residues
pub part-suc : (n : ℕ) (f g : ℤ → ℤ) → residues_of q n (plus (coefficients (residues_of q n f)) g) ≡ residues_of q n (λ k. f k +ℤ g k)
unfolding plus
part-suc n f g = residues_same n (plus (coefficients (residues_of q n f)) g) (λ k. f k +ℤ g k) (λ k l. cong-add q (residues_agree_low n f k l) (cong-refl q (g (pos k))))

pub ciphertext_total-suc : (n r : ℕ) (f : ℕ → Ciphertext) → ciphertext_sum (ciphertext_total n r f) (f r) ≡ ciphertext_total n (suc r) f
unfolding ciphertext_total ciphertext_sum total
ciphertext_total-suc n r f i = record {
  c0 = (ap (λ m. residues_of q m (plus (coefficients (ciphertext_total n r f).c0) (coefficients (f r).c0))) degree ∙ part-suc n (λ k. total r (λ j. coefficients (f j).c0 k)) (coefficients (f r).c0)) i;
  c1 = (ap (λ m. residues_of q m (plus (coefficients (ciphertext_total n r f).c1) (coefficients (f r).c1))) degree ∙ part-suc n (λ k. total r (λ j. coefficients (f j).c1 k)) (coefficients (f r).c1)) i;
}
  where
    degree : ciphertext_degree (ciphertext_total n r f) ≡ n
    degree = length-residues_of q n (λ k. total r (λ j. coefficients (f j).c0 k))

pub ciphertext_total-degree : (n r : ℕ) (f : ℕ → Ciphertext) → ciphertext_degree (ciphertext_total n r f) ≡ n
unfolding ciphertext_total
ciphertext_total-degree n r f = length-residues_of q n (λ k. total r (λ j. coefficients (f j).c0 k))

pub ciphertext_total-IsCiphertext : (n r : ℕ) (f : ℕ → Ciphertext) → IsDegree n → IsCiphertext (ciphertext_total n r f)
unfolding ciphertext_total
ciphertext_total-IsCiphertext n r f d = whole_pair n (λ k. total r (λ j. coefficients (f j).c0 k)) (λ k. total r (λ j. coefficients (f j).c1 k)) d

nothing : ℤ → ℤ
nothing k = pos 0

nothing-product : (n : ℕ) (s : ℤ → ℤ) (k : ℤ) → product n nothing s k ≡ pos 0
unfolding product nothing
nothing-product n s k = total-none n (λ i. pos 0 *ℤ s (k -ℤ pos i)) (λ i l. zero-mul (s (k -ℤ pos i)))

-- parts that are 0 modulo q
none_means : (n d : ℕ) (s c₀ c₁ : ℤ → ℤ) → Agree q c₀ nothing → Agree q c₁ nothing → Means 65537 q d s c₀ c₁ nothing 0
unfolding nothing phase
none_means n d s c₀ c₁ f g =
    means_by 65537 q d s c₀ c₁ nothing 0 nothing (omega arith) (λ k. omega arith)
    (λ k. cong-sym (65537 * q) (cong-trans (65537 * q) (cong-add (65537 * q) (cong-times 65537 q (phases_agree q d s c₀ c₁ nothing nothing f g k)) (cong-refl (65537 * q) (neg_ℤ (pos q *ℤ pos 0)))) (cong_from (65537 * q) (none k))))
  where
    shape : (t q : ℤ) → t *ℤ (pos 0 +ℤ pos 0) -ℤ q *ℤ pos 0 ≡ pos 0
    shape t q = simp expand

    none : (k : ℤ) → pos 65537 *ℤ phase d s nothing nothing k -ℤ pos q *ℤ pos 0 ≡ pos 0
    none k = ap (λ y. pos 65537 *ℤ (pos 0 +ℤ y) -ℤ pos q *ℤ pos 0) (nothing-product d s k) ∙ shape (pos 65537) (pos q)

zero_means : (n : ℕ) (s : ℤ → ℤ) (b : ℕ) → 0 < n → MeansWithin s (zero_ciphertext n) nothing b
unfolding nothing zero_ciphertext
zero_means n s b z =
    let xs = residues_of q n (λ k. pos 0) in
    let agrees : Agree q (coefficients xs) (λ k. pos 0) = residues_of-agree q n (λ k. pos 0) (omega arith) z (λ k. refl) in
    means_more 65537 q (length xs) s (coefficients xs) (coefficients xs) (λ k. pos 0) 0 b (omega arith)
    (none_means n (length xs) s (coefficients xs) (coefficients xs) agrees agrees)

-- summands of one degree that mean m 0, m 1 .. within b each
pub total_means : (n : ℕ) (f : ℕ → Ciphertext) (s : ℤ → ℤ) (m : ℕ → ℤ → ℤ) (b r : ℕ) → IsDegree n → ((j : ℕ) → j < r → IsCiphertext (f j)) → ((j : ℕ) → j < r → ciphertext_degree (f j) ≡ n)
    → ((j : ℕ) → j < r → MeansWithin s (f j) (m j) b) → MeansWithin s (ciphertext_total n r f) (sums r m) (r * b)
unfolding sums total nothing plus
total_means n f s m b zero d whole degree means =
    let z : 0 < n = degree_positive n d in
    let c = ciphertext_total n 0 f in
    let e : c ≡ zero_ciphertext n = ciphertext_total-zero n f in
    subst (λ (x : Ciphertext). MeansWithin s x nothing (0 * b)) (sym e) (zero_means n s (0 * b) z)
total_means n f s m b (suc r) d whole degree means =
    let c = ciphertext_total n r f in
    let few : r * b + b ≤ suc r * b = omega arith in
    let same : ciphertext_degree (f r) ≡ ciphertext_degree c = degree r (omega arith) ∙ sym (ciphertext_total-degree n r f) in
    subst (λ (x : Ciphertext). MeansWithin s x (plus (sums r m) (m r)) (suc r * b)) (ciphertext_total-suc n r f)
    (means_more 65537 q (ciphertext_degree (ciphertext_sum c (f r))) s (coefficients (ciphertext_sum c (f r)).c0) (coefficients (ciphertext_sum c (f r)).c1) (plus (sums r m) (m r)) (r * b + b) (suc r * b) few
    (sum_means c (f r) (ciphertext_total-IsCiphertext n r f d) (whole r (omega arith)) same s (sums r m) (m r) (r * b) b
    (total_means n f s m b r d (λ j l. whole j (omega arith)) (λ j l. degree j (omega arith)) (λ j l. means j (omega arith))) (means r (omega arith))))

-- the sum of ciphertexts of degree n
pub ciphertext_total-IsOfDegree : (n r : ℕ) (f : ℕ → Ciphertext) → IsDegree n → IsOfDegree n (ciphertext_total n r f)
ciphertext_total-IsOfDegree n r f d = record { cipher = ciphertext_total-IsCiphertext n r f d; degree = ciphertext_total-degree n r f }

pub plain_product-IsOfDegree : (n : ℕ) (c : Ciphertext) (xs : List ℕ) → IsDegree n → ciphertext_degree c ≡ n → IsOfDegree n (plain_product c xs)
unfolding plain_product
plain_product-IsOfDegree n c xs d e =
    let k = ciphertext_degree c in
    let f = product k (coefficients c.c0) (centred_coefficients xs) in
    let g = product k (coefficients c.c1) (centred_coefficients xs) in
    let dk : IsDegree k = subst IsDegree (sym e) d in
    record {
      cipher = whole_pair k f g dk;
      degree = length-residues_of q k f ∙ e;
    }

-- equal summands make equal sums
pub ciphertext_total-same : (n r : ℕ) (f g : ℕ → Ciphertext) → ((j : ℕ) → j < r → f j ≡ g j) → ciphertext_total n r f ≡ ciphertext_total n r g
unfolding ciphertext_total
ciphertext_total-same n r f g same t = record {
  c0 = residues_of q n (λ k. total-same r (λ j. coefficients (f j).c0 k) (λ j. coefficients (g j).c0 k) (λ j l. ap (λ (c : Ciphertext). coefficients c.c0 k) (same j l)) t);
  c1 = residues_of q n (λ k. total-same r (λ j. coefficients (f j).c1 k) (λ j. coefficients (g j).c1 k) (λ j l. ap (λ (c : Ciphertext). coefficients c.c1 k) (same j l)) t);
}

-- the parts of a sum, where the degree is known
pub sum-parts : (n : ℕ) (c d : Ciphertext) → ciphertext_degree c ≡ n → ciphertext_sum c d ≡ record { c0 = residues_of q n (plus (coefficients c.c0) (coefficients d.c0)); c1 = residues_of q n (plus (coefficients c.c1) (coefficients d.c1)) }
unfolding ciphertext_sum
sum-parts n c d e t = record { c0 = residues_of q (e t) (plus (coefficients c.c0) (coefficients d.c0)); c1 = residues_of q (e t) (plus (coefficients c.c1) (coefficients d.c1)) }

pub ciphertext_sum-degree : (n : ℕ) (c d : Ciphertext) → ciphertext_degree c ≡ n → ciphertext_degree (ciphertext_sum c d) ≡ n
ciphertext_sum-degree n c d e = sum-degree c d ∙ e

pub ciphertext_sum-IsOfDegree : (n : ℕ) (c d : Ciphertext) → IsDegree n → ciphertext_degree c ≡ n → IsOfDegree n (ciphertext_sum c d)
unfolding ciphertext_sum
ciphertext_sum-IsOfDegree n c d deg e =
    let k = ciphertext_degree c in
    let f = plus (coefficients c.c0) (coefficients d.c0) in
    let g = plus (coefficients c.c1) (coefficients d.c1) in
    let dk : IsDegree k = subst IsDegree (sym e) deg in
    record {
      cipher = whole_pair k f g dk;
      degree = length-residues_of q k f ∙ e;
    }

part-assoc : (n : ℕ) (f g h : ℤ → ℤ) → residues_of q n (plus (coefficients (residues_of q n (plus f g))) h) ≡ residues_of q n (plus f (coefficients (residues_of q n (plus g h))))
unfolding plus
part-assoc n f g h = residues_same n (plus (coefficients (residues_of q n (plus f g))) h) (plus f (coefficients (residues_of q n (plus g h))))
    (λ k l. cong-trans q (cong-add q (residues_agree_low n (plus f g) k l) (cong-refl q (h (pos k))))
    (cong-trans q (cong_from q (grouped (f (pos k)) (g (pos k)) (h (pos k)))) (cong-add q (cong-refl q (f (pos k))) (cong-sym q (residues_agree_low n (plus g h) k l)))))
  where
    grouped : (x y z : ℤ) → (x +ℤ y) +ℤ z ≡ x +ℤ (y +ℤ z)
    grouped x y z = omega (arith, linear)

-- sums may be grouped as one likes
pub ciphertext_sum-assoc : (n : ℕ) (a b c : Ciphertext) → ciphertext_degree a ≡ n → ciphertext_degree b ≡ n → ciphertext_sum (ciphertext_sum a b) c ≡ ciphertext_sum a (ciphertext_sum b c)
ciphertext_sum-assoc n a b c e f =
    sum-parts n (ciphertext_sum a b) c (ciphertext_sum-degree n a b e)
    ∙ (λ t. record {
      c0 = residues_of q n (plus (coefficients (sum-parts n a b e t).c0) (coefficients c.c0));
      c1 = residues_of q n (plus (coefficients (sum-parts n a b e t).c1) (coefficients c.c1));
    })
    ∙ (λ t. record {
      c0 = part-assoc n (coefficients a.c0) (coefficients b.c0) (coefficients c.c0) t;
      c1 = part-assoc n (coefficients a.c1) (coefficients b.c1) (coefficients c.c1) t;
    })
    ∙ sym (sum-parts n a (ciphertext_sum b c) e ∙ (λ t. record {
      c0 = residues_of q n (plus (coefficients a.c0) (coefficients (sum-parts n b c f t).c0));
      c1 = residues_of q n (plus (coefficients a.c1) (coefficients (sum-parts n b c f t).c1));
    }))

-- nothing is added to a list of residues
part-none : (n : ℕ) (xs : List ℕ) (g : ℤ → ℤ) → IsWhole xs → length xs ≡ n → ((k : ℕ) → k < n → Congruent q (g (pos k)) (pos 0)) → residues_of q n (plus (coefficients xs) g) ≡ xs
unfolding plus
part-none n xs g whole len none = sym (residues_of-is q n (plus (coefficients xs) g) xs (record {
  len = len;
  each = λ k l. sym (residue-same q (coefficients xs (pos k) +ℤ g (pos k)) (pos (get_or xs k 0)) (omega arith)
      (cong-trans q (cong-add q (cong_from q (coefficient-low xs k (omega (arith, len)))) (none k l)) (cong_from q (zero-right (pos (get_or xs k 0)))))
      ∙ residue_small q (get_or xs k 0) (whole.below k (omega (arith, len))));
}))
  where
    zero-right : (x : ℤ) → x +ℤ pos 0 ≡ x
    zero-right x = omega (arith, linear)

-- a ciphertext whose parts are 0 changes no sum
pub ciphertext_sum-none : (n : ℕ) (c z : Ciphertext) → IsOfDegree n c → ((k : ℕ) → k < n → Congruent q (coefficients z.c0 (pos k)) (pos 0)) → ((k : ℕ) → k < n → Congruent q (coefficients z.c1 (pos k)) (pos 0)) → ciphertext_sum c z ≡ c
ciphertext_sum-none n c z h none₀ none₁ =
    sum-parts n c z h.degree
    ∙ (λ t. record {
      c0 = part-none n c.c0 (coefficients z.c0) h.cipher.c0 h.degree none₀ t;
      c1 = part-none n c.c1 (coefficients z.c1) h.cipher.c1 (h.cipher.one_degree ∙ h.degree) none₁ t;
    })

pub ciphertext_sum-zero : (n : ℕ) (c : Ciphertext) → IsOfDegree n c → ciphertext_sum c (zero_ciphertext n) ≡ c
unfolding zero_ciphertext
ciphertext_sum-zero n c h = ciphertext_sum-none n c (zero_ciphertext n) h (λ k l. residues_agree_low n (λ i. pos 0) k l) (λ k l. residues_agree_low n (λ i. pos 0) k l)

-- a sum of sums, by its parts
pub total_of_totals : (n r : ℕ) (count : ℕ → ℕ) (f : ℕ → ℕ → Ciphertext) → ciphertext_total n r (λ j. ciphertext_total n (count j) (f j)) ≡ record {
  c0 = residues_of q n (λ k. total r (λ j. total (count j) (λ i. coefficients (f j i).c0 k)));
  c1 = residues_of q n (λ k. total r (λ j. total (count j) (λ i. coefficients (f j i).c1 k)));
}
unfolding ciphertext_total
total_of_totals n r count f t = record {
  c0 = residues_same n (λ k. total r (λ j. coefficients (residues_of q n (λ x. total (count j) (λ i. coefficients (f j i).c0 x))) k)) (λ k. total r (λ j. total (count j) (λ i. coefficients (f j i).c0 k)))
      (λ k l. cong-total q r (λ j. coefficients (residues_of q n (λ x. total (count j) (λ i. coefficients (f j i).c0 x))) (pos k)) (λ j. total (count j) (λ i. coefficients (f j i).c0 (pos k)))
      (λ j u. residues_agree_low n (λ x. total (count j) (λ i. coefficients (f j i).c0 x)) k l)) t;
  c1 = residues_same n (λ k. total r (λ j. coefficients (residues_of q n (λ x. total (count j) (λ i. coefficients (f j i).c1 x))) k)) (λ k. total r (λ j. total (count j) (λ i. coefficients (f j i).c1 k)))
      (λ k l. cong-total q r (λ j. coefficients (residues_of q n (λ x. total (count j) (λ i. coefficients (f j i).c1 x))) (pos k)) (λ j. total (count j) (λ i. coefficients (f j i).c1 (pos k)))
      (λ j u. residues_agree_low n (λ x. total (count j) (λ i. coefficients (f j i).c1 x)) k l)) t;
}
