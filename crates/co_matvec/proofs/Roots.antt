-- The roots of all subtrees, block by block.
use Rattle.std.proofs.Common.{◌≡◌, ℕ, ◌+◌, ◌-◌, ◌*◌, ◌/◌, ◌%◌, ◌^◌, ◌<◌, ◌≤◌, sym, ap, subst, ◌∙◌, ⊎_elim, arith, List, [], ◌++◌, length, get_or}
use Rattle.std.proofs.lemmas.Bool.{cases_lt}
use Rattle.std.proofs.Math.Nat.{mul-le-mul_right}
use Rattle.std.proofs.lemmas.Nat.{div-mul-add, mod-mul-add, pow_pos}
use Rattle.std.proofs.lemmas.List.{get_or_append_left, get_or-append_right, length-append}
use Rattle.co_bfv.specs.Ciphertexts.{Ciphertext, ciphertext_degree}
use Rattle.co_bfv.specs.Totals.{no_ciphertext, ciphertext_at}
use Rattle.co_switch.specs.Keys.{Keys}
use Rattle.co_switch.specs.Steps.{raised, HasRisen}
use Rattle.co_switch.proofs.Rising.{raised-zero, raised-raised, risen, risen_more}
use Rattle.co_rot.specs.Rotations.{rotation}
use Rattle.co_rot.specs.Subtrees.{crown_bits, subtree_bits, crown_of}
use Rattle.co_rot.proofs.Rotated.{AreRotationKeys, rotation-degree}
use Rattle.co_rot.proofs.Keyed.{rotation_keys_are, read_as}
use Rattle.co_rot.proofs.Crowns.{crown-read, length-crown, root-below}
use Rattle.co_matvec.specs.Weights.{WeightMatrix, keyword_blocks}
use Rattle.co_matvec.specs.Replies.{CanScore}
use Rattle.co_matvec.specs.Units.{AreRoots, unit_count}
use Rattle.co_crew.proofs.Unit_sums.{IsPlaced, placed}

-- the roots of the first blocks, and their steps
pub record AreGathered (keys : Keys) (query : List Ciphertext) (blocks : ℕ) (roots : List Ciphertext) (start now : ℕ) : Type 0 where
  pub roots_are : AreRoots keys query (blocks * 2 ^ crown_bits keys) roots
  pub steps : now ≡ raised start (blocks * (2 ^ crown_bits keys - 1))

nothing : (x : ℕ) → 0 * x ≡ 0
nothing x = omega arith

pub none_gathered : (keys : Keys) (query : List Ciphertext) (start : ℕ) → AreGathered keys query 0 [] start start
none_gathered keys query start = record {
  roots_are = record { count = sym (nothing (2 ^ crown_bits keys)); each = λ unit l. let e = nothing (2 ^ crown_bits keys) in absurd (omega arith) };
  steps = sym (ap (raised start) (nothing (2 ^ crown_bits keys - 1)) ∙ raised-zero start);
}

one-more : (k x : ℕ) → k * x + x ≡ (k + 1) * x
one-more k x = omega arith

module _ (keys : Keys) (query : List Ciphertext) (k : ℕ) (roots : List Ciphertext) (start now : ℕ) (h : AreGathered keys query k roots start now) where
  pub more_gathered : (c : Ciphertext) (ys next : List Ciphertext) (later : ℕ) → k < length query → c ≡ get_or query k c → ys ≡ crown_of keys c → next ≡ roots ++ ys → later ≡ raised now (2 ^ crown_bits keys - 1)
      → AreGathered keys query (k + 1) next start later
  more_gathered c ys next later l read e f g =
      let count = 2 ^ crown_bits keys in
      let long : length ys ≡ count = ap length e ∙ length-crown keys c in
      record {
        roots_are = record {
          count = ap length f ∙ length-append roots ys ∙ (λ t. h.roots_are.count t + long t) ∙ one-more k count;
          each = λ unit u. ⊎_elim
              (λ low. ap (λ xs. ciphertext_at xs unit) f ∙ get_or_append_left roots ys no_ciphertext unit (subst (λ (x : ℕ). unit < x) (sym h.roots_are.count) low) ∙ h.roots_are.each unit low)
              (λ high.
              let r = unit - k * count in
              let here : k * count + r ≡ unit = omega arith in
              let few : r < count = (let m = one-more k count in omega arith) in
              let block : unit / count ≡ k = ap (λ x. x / count) (sym here) ∙ div-mul-add k count r few in
              let sub : unit % count ≡ r = ap (λ x. x % count) (sym here) ∙ mod-mul-add k count r few in
              ap (λ xs. ciphertext_at xs unit) f ∙ get_or-append_right roots ys (k * count) unit no_ciphertext h.roots_are.count (omega arith)
              ∙ ap (λ xs. get_or xs r no_ciphertext) e ∙ crown-read keys c r no_ciphertext few
              ∙ (λ t. rotation keys (read_as query k c no_ciphertext l read t) (r * 2 ^ subtree_bits keys))
              ∙ sym (λ t. rotation keys (ciphertext_at query (block t)) (sub t * 2 ^ subtree_bits keys)))
              (cases_lt unit (k * count));
        };
        steps = g ∙ ap (λ x. raised x (count - 1)) h.steps ∙ raised-raised start (k * (count - 1)) (count - 1) ∙ ap (raised start) (one-more k (count - 1));
      }

  room : (k m x : ℕ) → k < m → k * x + x ≤ m * x
  room k m x l = let more : k + 1 ≤ m = omega arith in let all = mul-le-mul_right x more in let e = one-more k x in omega arith

  -- at most as many steps, where a block was not finished
  pub gathered-risen : (m later : ℕ) → k < m → HasRisen now (2 ^ crown_bits keys - 1) later → HasRisen start (m * (2 ^ crown_bits keys - 1)) later
  gathered-risen m later l r =
      risen_more start (k * (2 ^ crown_bits keys - 1)) (2 ^ crown_bits keys - 1) (m * (2 ^ crown_bits keys - 1)) later
      (subst (λ (x : ℕ). HasRisen x (2 ^ crown_bits keys - 1) later) h.steps r) (room k m (2 ^ crown_bits keys - 1) l)

  pub gathered-ended : (m later : ℕ) → k < m → later ≡ raised now (2 ^ crown_bits keys - 1) → HasRisen start (m * (2 ^ crown_bits keys - 1)) later
  gathered-ended m later l e = gathered-risen m later l (risen now (2 ^ crown_bits keys - 1) later (2 ^ crown_bits keys - 1) e (omega arith))

  module _ (m : ℕ) (end : k ≡ m) where
    pub all_gathered : AreRoots keys query (m * 2 ^ crown_bits keys) roots
    all_gathered = subst (λ (x : ℕ). AreRoots keys query (x * 2 ^ crown_bits keys) roots) end h.roots_are

    pub all_stepped : now ≡ raised start (m * (2 ^ crown_bits keys - 1))
    all_stepped = h.steps ∙ ap (λ x. raised start (x * (2 ^ crown_bits keys - 1))) end

    pub all_risen : HasRisen start (m * (2 ^ crown_bits keys - 1)) now
    all_risen = risen start (m * (2 ^ crown_bits keys - 1)) now (m * (2 ^ crown_bits keys - 1)) all_stepped (omega arith)

-- where keys, weights and queries can be scored
module _ (w : WeightMatrix) (keys : Keys) (query roots : List Ciphertext) (h : CanScore w keys query) (r : AreRoots keys query (unit_count w keys) roots) (unit : ℕ) (l : unit < unit_count w keys) where
  place : IsPlaced (keyword_blocks w) (2 ^ crown_bits keys) unit
  place = placed (keyword_blocks w) (2 ^ crown_bits keys) unit (pow_pos (crown_bits keys)) l

  set : AreRotationKeys w.degree (length keys.rotations) keys
  set = subst (λ (n : ℕ). AreRotationKeys n (length keys.rotations) keys) h.keys_of_degree (rotation_keys_are keys h.key_set)

  pub root-degree : ciphertext_degree (ciphertext_at roots unit) ≡ w.degree
  root-degree =
      let k = unit / 2 ^ crown_bits keys in
      let u : k < length query = subst (λ (x : ℕ). k < x) (sym h.blocks) place.row in
      ap ciphertext_degree (r.each unit l)
      ∙ rotation-degree w.degree (length keys.rotations) keys set (ciphertext_at query k) (h.ciphers k no_ciphertext u) (h.query_degree k no_ciphertext u)
      (unit % 2 ^ crown_bits keys * 2 ^ subtree_bits keys) (root-below keys h.key_set (unit % 2 ^ crown_bits keys) place.place)
