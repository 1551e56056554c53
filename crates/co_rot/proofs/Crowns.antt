-- The roots of the subtrees made so far.
use Rattle.std.proofs.Common.{◌≡◌, ℕ, ◌+◌, ◌-◌, ◌*◌, ◌^◌, ◌<◌, ◌≤◌, refl, sym, ap, subst, ◌∙◌, arith, List, [], ◌∷◌, ◌++◌, length, get_or, map, All}
use Rattle.std.specs.List.{range_with_len}
use Rattle.std.proofs.lemmas.Nat.{pow_pos, pow-add}
use Rattle.std.proofs.Math.Nat.{mul-le-mul_right, pow-le-pow_right}
use Rattle.std.proofs.lemmas.List.FromFn.{map-range_with_len_more, length-map-range_with_len, get_or-map-range_with_len}
use Rattle.co_bfv.specs.Ciphertexts.{Ciphertext, IsCiphertext, ciphertext_degree}
use Rattle.co_switch.specs.Keys.{Keys, AreKeys, keys_degree, rotation_key}
use Rattle.co_switch.specs.Steps.{raised, HasRisen}
use Rattle.co_switch.proofs.Rising.{raised-zero, raised-raised, risen}
use Rattle.co_switch.specs.Switches.{switched}
use Rattle.co_rot.specs.Bits.{lowest_bit, parent_of}
use Rattle.co_bfv.specs.Totals.{no_ciphertext}
use Rattle.co_rot.specs.Rotations.{rotation}
use Rattle.co_rot.specs.Subtrees.{crown_bits, subtree_bits, crown_of, IsSubtree}
use Rattle.co_rot.proofs.Keyed.{rotation_keys_are}
use Rattle.co_rot.proofs.Turning.{lowest-is, rotation-step, rotation-zero, parent-plus, parent-lt}
use Rattle.co_rot.proofs.Rotated.{rotation-degree}
use Rattle.co_rot.proofs.Halving.{lowest-only, from_root}

abbrev pub root_turned : Keys → Ciphertext → ℕ → Ciphertext
root_turned keys query r = rotation keys query (r * 2 ^ subtree_bits keys)

-- the first i roots, made in i - 1 steps
pub record AreRoots (keys : Keys) (query : Ciphertext) (i : ℕ) (roots : List Ciphertext) (before now : ℕ) : Type 0 where
  pub items : roots ≡ map (root_turned keys query) (range_with_len 0 i)
  pub steps : now ≡ raised before (i - 1)

pub one_root : (keys : Keys) (query : Ciphertext) (before : ℕ) → AreRoots keys query 1 (query ∷ []) before before
one_root keys query before = record {
  items = ap (λ c. c ∷ []) (sym (ap (rotation keys query) (nothing (2 ^ subtree_bits keys)) ∙ rotation-zero keys query));
  steps = sym (raised-zero before);
}
  where
    nothing : (x : ℕ) → 0 * x ≡ 0
    nothing x = omega arith

-- a root, by its number among the subtrees
module _ (keys : Keys) (a : AreKeys keys) (r : ℕ) (u : r < 2 ^ crown_bits keys) where
  here : IsSubtree keys (subtree_bits keys) (r * 2 ^ subtree_bits keys)
  here = from_root keys (r * 2 ^ subtree_bits keys) a (record { subtree = r; within = u; is = refl })

  pub root-below : r * 2 ^ subtree_bits keys < 2 ^ length keys.rotations
  root-below = omega (arith, here.within, pow_pos (subtree_bits keys))

  pub root-fits : r * 2 ^ subtree_bits keys < 2 ^ 32
  root-fits = omega (arith, root-below, pow-le-pow_right {n = 2} (omega arith) here.small)

  small : r < 2 ^ 32
  small = omega (arith, root-fits, mul-le-mul_right r (pow_pos (subtree_bits keys)))

  module _ (z : 0 < r) where
    pub root-some : 1 ≤ r * 2 ^ subtree_bits keys
    root-some = omega (arith, mul-le-mul_right (2 ^ subtree_bits keys) z, pow_pos (subtree_bits keys))

    root-bit : lowest_bit (r * 2 ^ subtree_bits keys) ≡ subtree_bits keys + lowest_bit r
    root-bit =
        let b = lowest-is r z small in
        let c = lowest-is (r * 2 ^ subtree_bits keys) root-some root-fits in
        lowest-only (lowest_bit (r * 2 ^ subtree_bits keys)) (subtree_bits keys + lowest_bit r) (r * 2 ^ subtree_bits keys) c.half b.half c.is
        (ap (λ k. k * 2 ^ subtree_bits keys) b.is ∙ shape (2 ^ lowest_bit r) (2 * b.half + 1) (2 ^ subtree_bits keys) ∙ ap (λ p. p * (2 * b.half + 1)) (sym (pow-add 2 (subtree_bits keys) (lowest_bit r))))
      where
        shape : (p o s : ℕ) → p * o * s ≡ s * p * o
        shape p o s = omega arith

    pub root-parent : parent_of (r * 2 ^ subtree_bits keys) ≡ parent_of r * 2 ^ subtree_bits keys
    root-parent =
        let all = parent-plus (r * 2 ^ subtree_bits keys) root-some root-fits in
        let one = ap (λ k. k * 2 ^ subtree_bits keys) (parent-plus r z small) in
        let power = ap (λ b. 2 ^ b) root-bit ∙ pow-add 2 (subtree_bits keys) (lowest_bit r) in
        settled (parent_of (r * 2 ^ subtree_bits keys)) (parent_of r) (2 ^ subtree_bits keys) (2 ^ lowest_bit r) (2 ^ lowest_bit (r * 2 ^ subtree_bits keys)) (r * 2 ^ subtree_bits keys) all one power
      where
        settled : (p k s b x i : ℕ) → p + x ≡ i → (k + b) * s ≡ i → x ≡ s * b → p ≡ k * s
        settled p k s b x i e f g = omega arith

    pub root-step : (query : Ciphertext) → root_turned keys query r ≡ switched (rotation_key keys (lowest_bit (r * 2 ^ subtree_bits keys))) (root_turned keys query (parent_of r))
    root-step query =
        rotation-step (length keys.rotations) here.small keys query (r * 2 ^ subtree_bits keys) refl root-some root-below
        ∙ ap (λ p. switched (rotation_key keys (lowest_bit (r * 2 ^ subtree_bits keys))) (rotation keys query p)) root-parent

    pub root-parent-lt : parent_of r < r
    root-parent-lt = parent-lt r z small

module _ (keys : Keys) (query : Ciphertext) (a : AreKeys keys) (ok : IsCiphertext query) (one : ciphertext_degree query ≡ keys_degree keys)
    (i : ℕ) (roots : List Ciphertext) (before now : ℕ) (h : AreRoots keys query i roots before now) where
  pub length-roots : length roots ≡ i
  length-roots = ap length h.items ∙ length-map-range_with_len (root_turned keys query) 0 i

  pub root-read : (j : ℕ) (d : Ciphertext) → j < i → get_or roots j d ≡ root_turned keys query j
  root-read j d u = ap (λ xs. get_or xs j d) h.items ∙ get_or-map-range_with_len (root_turned keys query) 0 i j j d u (omega arith)

  pub root-degree : i ≤ 2 ^ crown_bits keys → All (λ c. ciphertext_degree c ≡ keys_degree keys) roots
  root-degree few j d u =
      let v : j < i = subst (λ (m : ℕ). j < m) length-roots u in
      ap ciphertext_degree (root-read j d v)
      ∙ rotation-degree (keys_degree keys) (length keys.rotations) keys (rotation_keys_are keys a) query ok one (j * 2 ^ subtree_bits keys) (root-below keys a j (omega arith))

  pub more_roots : (next : Ciphertext) (after : ℕ) (ys : List Ciphertext) → 0 < i → i < 2 ^ crown_bits keys → ys ≡ roots ++ next ∷ []
      → next ≡ switched (rotation_key keys (lowest_bit (i * 2 ^ subtree_bits keys))) (get_or roots (parent_of i) no_ciphertext) → after ≡ raised now 1
      → AreRoots keys query (i + 1) ys before after
  more_roots next after ys z u g e f = record {
    items =
        g
        ∙ (λ t. h.items t ++ (e ∙ ap (switched (rotation_key keys (lowest_bit (i * 2 ^ subtree_bits keys)))) (root-read (parent_of i) no_ciphertext (root-parent-lt keys a i u z)) ∙ sym (root-step keys a i u z query)) t ∷ [])
        ∙ sym (map-range_with_len_more (root_turned keys query) 0 i i (omega arith));
    steps = f ∙ ap (λ m. raised m 1) h.steps ∙ raised-raised before (i - 1) 1 ∙ ap (raised before) (omega arith);
  }

  pub roots-risen : (after : ℕ) → i ≤ 2 ^ crown_bits keys → after ≡ now → HasRisen before (2 ^ crown_bits keys - 1) after
  roots-risen after few e = risen before (2 ^ crown_bits keys - 1) after (i - 1) (e ∙ h.steps) (omega arith)

  pub roots-risen-more : (after : ℕ) → 0 < i → i < 2 ^ crown_bits keys → after ≡ raised now 1 → HasRisen before (2 ^ crown_bits keys - 1) after
  roots-risen-more after z few e = risen before (2 ^ crown_bits keys - 1) after (i - 1 + 1) (e ∙ ap (λ m. raised m 1) h.steps ∙ raised-raised before (i - 1) 1) (omega arith)

  pub all_roots : i ≡ 2 ^ crown_bits keys → roots ≡ crown_of keys query
  unfolding crown_of
  all_roots end = h.items ∙ ap (λ m. map (root_turned keys query) (range_with_len 0 m)) end

  pub all_counted : i ≡ 2 ^ crown_bits keys → now ≡ raised before (2 ^ crown_bits keys - 1)
  all_counted end = h.steps ∙ ap (λ m. raised before (m - 1)) end

pub below_end : (keys : Keys) (r count : ℕ) → count ≡ 2 ^ crown_bits keys → r < count → r < 2 ^ crown_bits keys
below_end keys r count e l = omega arith

pub at_end : (keys : Keys) (r count : ℕ) → count ≡ 2 ^ crown_bits keys → (1 ≤ count → r ≤ count) → count ≤ r → r ≡ 2 ^ crown_bits keys
at_end keys r count e l u =
    let some : 1 ≤ count = omega (arith, e, pow_pos (crown_bits keys)) in
    let most = l some in
    omega arith

pub length-crown : (keys : Keys) (query : Ciphertext) → length (crown_of keys query) ≡ 2 ^ crown_bits keys
unfolding crown_of
length-crown keys query = length-map-range_with_len (root_turned keys query) 0 (2 ^ crown_bits keys)

-- the rotation of a subtree's root
pub crown-read : (keys : Keys) (query : Ciphertext) (r : ℕ) (d : Ciphertext) → r < 2 ^ crown_bits keys → get_or (crown_of keys query) r d ≡ rotation keys query (r * 2 ^ subtree_bits keys)
unfolding crown_of
crown-read keys query r d u = get_or-map-range_with_len (root_turned keys query) 0 (2 ^ crown_bits keys) r r d u (omega arith)
