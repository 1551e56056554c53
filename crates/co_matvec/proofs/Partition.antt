-- All units together are the score replies; the sums of two workers add up.
use Rattle.std.proofs.Common.{◌≡◌, ℕ, ◌^◌, ◌<◌, sym, ap, subst, ◌∙◌, arith, List, [], ◌++◌, length, All}
use Rattle.std.proofs.lemmas.List.Elements.{All-from_get_or}
use Rattle.co_bfv.specs.Ciphertexts.{Ciphertext, plain_product}
use Rattle.co_bfv.specs.Totals.{ciphertext_total}
use Rattle.co_switch.specs.Keys.{Keys, keys_degree}
use Rattle.co_rot.specs.Subtrees.{crown_bits, subtree_bits}
use Rattle.co_crew.specs.Crew.{IsEach}
use Rattle.co_crew.specs.Sums.{units_total}
use Rattle.co_spectra.specs.Sums.{CipherSums, IsCipherSumOf}
use Rattle.co_matvec.specs.Sums.{no_sum, sum_at, AreEmpty, AreAdded, AreTurnedBack}
use Rattle.co_crew.proofs.Unit_sums.{units-none, units-append, units-each, units-rows}
use Rattle.co_matvec.specs.Weights.{WeightMatrix, keyword_blocks, document_blocks}
use Rattle.co_matvec.specs.Replies.{AreDiagonals, AreScoreReplies, score_sum, turned_query}
use Rattle.co_matvec.specs.Units.{unit_count, unit_sum, AreUnitSums}
use Rattle.co_matvec.proofs.Walking.{subtree_rotations}

-- each unit once, in any order
all-units : (w : WeightMatrix) (keys : Keys) (query : List Ciphertext) (diagonal : ℕ → ℕ → List ℕ) → keys_degree keys ≡ w.degree
    → ciphertext_total w.degree (unit_count w keys) (unit_sum w keys query diagonal) ≡ score_sum w keys query diagonal
unfolding unit_sum score_sum
all-units w keys query diagonal kn =
    let g : ℕ → ℕ → Ciphertext = λ (k i : ℕ). plain_product (turned_query keys query k i) (diagonal k i) in
    units-rows w.degree (keyword_blocks w) (2 ^ crown_bits keys) (2 ^ subtree_bits keys) g
    ∙ ap (λ h. ciphertext_total w.degree (keyword_blocks w) (λ k. ciphertext_total w.degree h (g k))) (subtree_rotations keys w.degree kn)

-- where a score's units stand once each in the sums, the ciphertexts that they are are the score replies
pub units_scored : (w : WeightMatrix) (keys : Keys) (query : List Ciphertext) (units : List ℕ) (sums : List CipherSums) (replies : List Ciphertext) → keys_degree keys ≡ w.degree
    → ((a : ℕ) → (diagonal : ℕ → ℕ → List ℕ) × AreDiagonals w a diagonal) → IsEach (unit_count w keys) units → AreUnitSums w keys query units sums → AreTurnedBack w.degree (length sums) sums replies
    → AreScoreReplies w keys query replies
units_scored w keys query units sums replies kn family each h t = record {
  count = t.len ∙ h.count;
  each = λ a l.
      let d = family a in
      let u : a < length sums = subst (λ (x : ℕ). a < x) t.len l in
      record {
        diagonal = d.0;
        diagonals = d.1;
        is = t.each a (units_total w.degree (unit_sum w keys query d.0) units) u (h.each a d.0 u d.1) ∙ units-each w.degree (unit_sum w keys query d.0) (unit_count w keys) units each ∙ all-units w keys query d.0 kn;
      };
}

-- nothing was added yet
pub none_summed : (w : WeightMatrix) (keys : Keys) (query : List Ciphertext) (sums : List CipherSums) → length sums ≡ document_blocks w → AreEmpty w.degree sums → AreUnitSums w keys query [] sums
none_summed w keys query sums len empty = record {
  count = len;
  degrees = λ a x l. (empty a x l).degree;
  each = λ a diagonal l right. subst (λ (c : Ciphertext). IsCipherSumOf c (sum_at sums a)) (sym (units-none w.degree (unit_sum w keys query diagonal))) (empty a no_sum l).none;
}

pub empty-degrees : (n : ℕ) (sums : List CipherSums) → AreEmpty n sums → All (λ s. s.degree ≡ n) sums
empty-degrees n sums empty a x l = (empty a x l).degree

pub added-degrees : (n : ℕ) (before others after : List CipherSums) → All (λ s. s.degree ≡ n) before → AreAdded before others after → All (λ s. s.degree ≡ n) after
added-degrees n before others after h added = All-from_get_or (λ (s : CipherSums). s.degree ≡ n) after no_sum
    (λ a l. let u : a < length before = omega (arith, added.count) in (added.each a u).degree ∙ h a no_sum u)

-- what two workers have, added
pub both_summed : (w : WeightMatrix) (keys : Keys) (query : List Ciphertext) (us vs : List ℕ) (before others after : List CipherSums) → AreUnitSums w keys query us before → AreUnitSums w keys query vs others
    → AreAdded before others after → AreUnitSums w keys query (us ++ vs) after
both_summed w keys query us vs before others after h g added = record {
  count = added.count ∙ h.count;
  degrees = added-degrees w.degree before others after h.degrees added;
  each = λ a diagonal l right.
      let u : a < length before = omega (arith, added.count) in
      let v : a < length others = omega (arith, h.count, g.count) in
      let f = unit_sum w keys query diagonal in
      subst (λ (c : Ciphertext). IsCipherSumOf c (sum_at after a)) (units-append w.degree f us vs)
      ((added.each a u).sum (units_total w.degree f us) (units_total w.degree f vs) (h.each a diagonal u right) (g.each a diagonal v right));
}
