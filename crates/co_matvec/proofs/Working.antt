-- What a worker of a score holds.
use Rattle.std.proofs.Common.{◌≡◌, ℕ, zero, suc, ◌+◌, ◌*◌, ◌/◌, ◌%◌, ◌^◌, ◌<◌, sym, ap, subst, ◌∙◌, List, [], ◌∷◌, ◌++◌, length, get_or}
use Rattle.std.proofs.lemmas.List.{get_or_default}
use Rattle.co_bfv.specs.Ciphertexts.{Ciphertext, ciphertext_degree}
use Rattle.co_bfv.specs.Totals.{no_ciphertext, ciphertext_at}
use Rattle.co_switch.specs.Keys.{keys_degree}
use Rattle.co_rot.specs.Rotations.{rotation}
use Rattle.co_rot.specs.Subtrees.{crown_bits, subtree_bits, HasVisited}
use Rattle.co_matvec.specs.Sums.{AreEmpty, AreAdded}
use Rattle.co_matvec.specs.Weights.{document_blocks}
use Rattle.co_matvec.specs.Replies.{CanScore}
use Rattle.co_matvec.specs.Units.{Scored, Summing, Visits, AreUnitSums, AreRoots, IsPartOf, unit_count}
use Rattle.co_matvec.proofs.Walking.{unit_added}
use Rattle.co_matvec.proofs.Partition.{none_summed, both_summed}
use Rattle.co_matvec.proofs.Roots.{root-degree}

weights-kept : (turned : ℕ → Ciphertext) (first count : ℕ) (before after : Summing) → HasVisited Visits turned first count before after → after.weights ≡ before.weights
weights-kept turned first zero before after h = ap (λ (s : Summing). s.weights) h
weights-kept turned first (suc count) before after h = let last : Visits h.0 (first + count) (turned (first + count)) after = h.2 in last.weights ∙ weights-kept turned first count before h.0 h.1

module _ (score : Scored) (can : CanScore score.weights score.keys score.query) where
  pub none_part : (held : Summing) → held.weights ≡ score.weights → length held.sums ≡ document_blocks score.weights → AreEmpty score.weights.degree held.sums → IsPartOf score [] held
  none_part held e len empty = record { weights = e; sums = none_summed score.weights score.keys score.query held.sums len empty }

  pub both_parts : (before others after : Summing) → after.weights ≡ before.weights → AreAdded before.sums others.sums after.sums → (us vs : List ℕ) → IsPartOf score us before → IsPartOf score vs others → IsPartOf score (us ++ vs) after
  both_parts before others after e added us vs h g = record {
    weights = e ∙ h.weights;
    sums = both_summed score.weights score.keys score.query us vs before.sums others.sums after.sums h.sums g.sums added;
  }

  module _ (roots : List Ciphertext) (r : AreRoots score.keys score.query (unit_count score.weights score.keys) roots) (unit count size : ℕ) (l : unit < unit_count score.weights score.keys)
      (count_is : count ≡ 2 ^ crown_bits score.keys) (size_is : size ≡ 2 ^ subtree_bits score.keys) where
    root_is : unit % count * size ≡ unit % 2 ^ crown_bits score.keys * 2 ^ subtree_bits score.keys
    root_is t = unit % count_is t * size_is t

    inside : unit < length roots
    inside = subst (λ (x : ℕ). unit < x) (sym r.count) l

    pub root_degree : (d : Ciphertext) → ciphertext_degree (get_or roots unit d) ≡ keys_degree score.keys
    root_degree d = ap ciphertext_degree (get_or_default roots unit d no_ciphertext inside) ∙ root-degree score.weights score.keys score.query roots can r unit l ∙ sym can.keys_of_degree

    pub add_part : (old begun new : Summing) (d : Ciphertext) → begun ≡ record { weights = old.weights; block = unit / count; sums = old.sums }
        → ((q : Ciphertext) → get_or roots unit d ≡ rotation score.keys q (unit % count * size) → HasVisited Visits (rotation score.keys q) (unit % count * size) (2 ^ subtree_bits score.keys) begun new)
        → (us : List ℕ) → IsPartOf score us old → IsPartOf score (us ++ unit ∷ []) new
    add_part old begun new d begun_is walk us h =
        let q = ciphertext_at score.query (unit / 2 ^ crown_bits score.keys) in
        let visited = subst (λ (x : ℕ). HasVisited Visits (rotation score.keys q) x (2 ^ subtree_bits score.keys) begun new) root_is
        (walk q (get_or_default roots unit d no_ciphertext inside ∙ r.each unit l ∙ ap (rotation score.keys q) (sym root_is))) in
        let same : begun.weights ≡ score.weights = ap (λ (s : Summing). s.weights) begun_is ∙ h.weights in
        record {
          weights = weights-kept (rotation score.keys q) (unit % 2 ^ crown_bits score.keys * 2 ^ subtree_bits score.keys) (2 ^ subtree_bits score.keys) begun new visited ∙ same;
          sums = unit_added score.weights score.keys score.query us unit begun new can.keys_of_degree l same (ap (λ (s : Summing). s.block) begun_is ∙ ap (λ x. unit / x) count_is)
              (subst (AreUnitSums score.weights score.keys score.query us) (sym (ap (λ (s : Summing). s.sums) begun_is)) h.sums) visited;
        }
