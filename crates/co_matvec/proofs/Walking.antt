-- What a walk through a subtree adds to the replies.
use Rattle.std.proofs.Common.{◌≡◌, ℕ, zero, suc, ◌+◌, ◌-◌, ◌*◌, ◌/◌, ◌%◌, ◌^◌, ◌<◌, ◌≤◌, refl, sym, ap, subst, ◌∙◌, arith, List, [], ◌∷◌, ◌++◌, length, All}
use Rattle.std.proofs.lemmas.Nat.{pow-add, pow_pos}
use Rattle.std.proofs.lemmas.List.Elements.{All-from_get_or}
use Rattle.std.proofs.Math.Nat.{mul-le-mul_right}
use Rattle.co_bfv.specs.Ciphertexts.{Ciphertext, ciphertext_sum, plain_product}
use Rattle.co_bfv.specs.Totals.{ciphertext_at, IsOfDegree, ciphertext_total}
use Rattle.co_spectra.specs.Sums.{CipherSums, IsCipherSumOf}
use Rattle.co_bfv.proofs.Totals.{ciphertext_total-zero, ciphertext_total-suc, ciphertext_total-degree, ciphertext_sum-zero, ciphertext_sum-assoc}
use Rattle.co_switch.specs.Keys.{Keys, keys_degree}
use Rattle.co_rot.specs.Rotations.{rotation}
use Rattle.co_rot.specs.Subtrees.{crown_bits, subtree_bits, HasVisited}
use Rattle.co_crew.specs.Sums.{units_total}
use Rattle.co_crew.proofs.Unit_sums.{placed, units-snoc}
use Rattle.co_matvec.specs.Weights.{WeightMatrix, keyword_blocks}
use Rattle.co_matvec.specs.Replies.{IsDiagonal}
use Rattle.co_matvec.specs.Sums.{no_sum, sum_at}
use Rattle.co_matvec.specs.Units.{unit_count, unit_sum, AreUnitSums, AddsDiagonal, Summing, Visits}

module _ (w : WeightMatrix) (turned : ℕ → Ciphertext) (k first : ℕ) where
  -- the rotations of a stretch times their diagonals
  abbrev pub stretch : (ℕ → List ℕ) → ℕ → Ciphertext
  stretch diagonal count = ciphertext_total w.degree count (λ j. plain_product (turned (first + j)) (diagonal (first + j)))

  pub record HasAdded (count : ℕ) (before after : Summing) : Type 0 where
    pub weights : after.weights ≡ before.weights
    pub block : after.block ≡ before.block
    pub length_is : length after.sums ≡ length before.sums
    pub degrees : All (λ s. s.degree ≡ w.degree) after.sums
    pub each : (a : ℕ) (diagonal : ℕ → List ℕ) (c : Ciphertext) → a < length before.sums → ((j : ℕ) → j < count → IsDiagonal w a k (first + j) (diagonal (first + j)))
        → IsCipherSumOf c (sum_at before.sums a) → IsCipherSumOf (ciphertext_sum c (stretch diagonal count)) (sum_at after.sums a)

  pub walked : (count : ℕ) (before after : Summing) → before.weights ≡ w → before.block ≡ k → All (λ s. s.degree ≡ w.degree) before.sums → HasVisited Visits turned first count before after → HasAdded count before after
  walked zero before after e f whole h = subst (HasAdded zero before) (sym h) (record {
    weights = refl;
    block = refl;
    length_is = refl;
    degrees = whole;
    each = λ a diagonal c l right g.
        subst (λ (x : Ciphertext). IsCipherSumOf x (sum_at before.sums a))
        (sym (ap (ciphertext_sum c) (ciphertext_total-zero w.degree (λ j. plain_product (turned (first + j)) (diagonal (first + j))))
        ∙ ciphertext_sum-zero w.degree c (subst (λ (n : ℕ). IsOfDegree n c) (whole a no_sum l) g.cipher))) g;
  })
  walked (suc count) before after e f whole h =
      let between : Summing = h.0 in
      let r = walked count before between e f whole h.1 in
      let last : Visits between (first + count) (turned (first + count)) after = h.2 in
      let one : (a : ℕ) → a < length between.sums → AddsDiagonal w a k (first + count) (turned (first + count)) (sum_at between.sums a) (sum_at after.sums a) =
      λ a l. subst (λ (x : WeightMatrix). AddsDiagonal x a k (first + count) (turned (first + count)) (sum_at between.sums a) (sum_at after.sums a)) (r.weights ∙ e)
      (subst (λ (x : ℕ). AddsDiagonal between.weights a x (first + count) (turned (first + count)) (sum_at between.sums a) (sum_at after.sums a)) (r.block ∙ f) (last.adds.each a l)) in
      record {
        weights = last.weights ∙ r.weights;
        block = last.block ∙ r.block;
        length_is = last.adds.count ∙ r.length_is;
        degrees = All-from_get_or (λ (s : CipherSums). s.degree ≡ w.degree) after.sums no_sum
            (λ a l. let v : a < length between.sums = omega (arith, last.adds.count) in (one a v).degree ∙ r.degrees a no_sum v);
        each = λ a diagonal c l right g.
            let product = plain_product (turned (first + count)) (diagonal (first + count)) in
            subst (λ (x : Ciphertext). IsCipherSumOf x (sum_at after.sums a))
            (ciphertext_sum-assoc w.degree c (stretch diagonal count) product (g.cipher.degree ∙ whole a no_sum l)
            (ciphertext_total-degree w.degree count (λ j. plain_product (turned (first + j)) (diagonal (first + j))))
            ∙ ap (ciphertext_sum c) (ciphertext_total-suc w.degree count (λ j. plain_product (turned (first + j)) (diagonal (first + j)))))
            ((one a (omega (arith, r.length_is))).is (ciphertext_sum c (stretch diagonal count)) (diagonal (first + count)) (right count (omega arith)) (r.each a diagonal c l (λ j u. right j (omega arith)) g));
      }

-- the subtrees of a block have its rotations
pub subtree_rotations : (keys : Keys) (n : ℕ) → keys_degree keys ≡ n → 2 ^ crown_bits keys * 2 ^ subtree_bits keys ≡ n / 2
subtree_rotations keys n e =
    sym (pow-add 2 (crown_bits keys) (subtree_bits keys)) ∙ ap (λ b. 2 ^ b) (parts (length keys.rotations)) ∙ halved (2 ^ length keys.rotations) ∙ ap (λ m. m / 2) e
  where
    parts : (b : ℕ) → b / 2 + (b - b / 2) ≡ b
    parts b = omega arith

    halved : (x : ℕ) → x ≡ 2 * x / 2
    halved x = omega arith

-- a rotation of a subtree is one of its block
pub inside_block : (count size half r j : ℕ) → count * size ≡ half → r < count → j < size → r * size + j < half
inside_block count size half r j e l u = let more : r + 1 ≤ count = omega arith in let full = mul-le-mul_right size more in omega arith

-- the sums of these units and one more
pub unit_added : (w : WeightMatrix) (keys : Keys) (query : List Ciphertext) (us : List ℕ) (unit : ℕ) (before after : Summing) → keys_degree keys ≡ w.degree → unit < unit_count w keys
    → before.weights ≡ w → before.block ≡ unit / 2 ^ crown_bits keys → AreUnitSums w keys query us before.sums
    → HasVisited Visits (rotation keys (ciphertext_at query (unit / 2 ^ crown_bits keys))) (unit % 2 ^ crown_bits keys * 2 ^ subtree_bits keys) (2 ^ subtree_bits keys) before after
    → AreUnitSums w keys query (us ++ unit ∷ []) after.sums
unfolding unit_sum
unit_added w keys query us unit before after kn l e f h visited =
    let count = 2 ^ crown_bits keys in
    let size = 2 ^ subtree_bits keys in
    let k = unit / count in
    let first = unit % count * size in
    let turned = rotation keys (ciphertext_at query k) in
    let r = walked w turned k first size before after e f h.degrees visited in
    let p = placed (keyword_blocks w) count unit (pow_pos (crown_bits keys)) l in
    record {
      count = r.length_is ∙ h.count;
      degrees = r.degrees;
      each = λ a diagonal u right.
          let v : a < length before.sums = omega (arith, r.length_is) in
          subst (λ (c : Ciphertext). IsCipherSumOf c (sum_at after.sums a)) (units-snoc w.degree (unit_sum w keys query diagonal) us unit)
          (r.each a (diagonal k) (units_total w.degree (unit_sum w keys query diagonal) us) v (λ j m. right.each k (first + j) p.row (inside_block count size (w.degree / 2) (unit % count) j (subtree_rotations keys w.degree kn) p.place m))
          (h.each a diagonal v right));
    }
