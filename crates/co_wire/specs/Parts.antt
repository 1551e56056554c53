-- A body that is read from its front, residue by residue.
use Rattle.std.specs.Prelude.{◌≡◌, ℕ, ◌+◌, ◌*◌, ◌<◌, List, ◌++◌, length, map, take, All, Result, Ok, Err}
use Rattle.std.specs.List.{flat_map, range_with_len}
use Rattle.co_rns.specs.Pairs.{IsWhole}
use Rattle.co_switch.specs.Keys.{Key, Keys, IsKey, AreKeys, key_degree, keys_degree}
use Rattle.co_wire.specs.declared.fault.WireFault.{WireFault}
use Rattle.co_wire.specs.declared.fault.WireFault.TheVariants.{Range, OutOfMemory}
use Rattle.co_wire.specs.Bodies.{residue_at, modulus_at, IsFirstOutOfRange, pairs_bytes, key_bytes, keys_bytes}

-- the residues before the i-th are in range
abbrev pub AreInRangeTo : List ℕ → ℕ → Type 0
AreInRangeTo body i = (k : ℕ) → k < i → residue_at body k < modulus_at k

-- the residues from the i-th up to the j-th spell this text
abbrev pub SpellsBetween : ℕ → ℕ → List ℕ → List ℕ → Type 0
SpellsBetween i j text body = take (7 * j) body ≡ take (7 * i) body ++ text

-- the fault is the first residue out of range; want of memory is free
abbrev pub IsRangeFault : List ℕ → WireFault → Type 0
IsRangeFault body (Range place) = IsFirstOutOfRange body place
IsRangeFault body OutOfMemory = Unit {0}
IsRangeFault body fault = ⊥

-- a reader of the residues from the i-th up to the j-th gives what they spell, and has found those
-- before the j-th in
-- range; or its fault is the first residue out of range
abbrev pub ReadsTo : {X : Type 0} → (X → List ℕ) → ℕ → ℕ → List ℕ → Result X WireFault → Type 0
ReadsTo text i j body (Ok x) = SpellsBetween i j (text x) body × AreInRangeTo body j
ReadsTo text i j body (Err fault) = IsRangeFault body fault

-- the first i pairs of a key are read, up to the residue `at`
pub record AreReadPairs (n start i at : ℕ) (k0 k1 : List (List ℕ)) (body : List ℕ) : Type 0 where
  pub at_is : at ≡ start + i * (4 * n)
  pub first_count : length k0 ≡ i
  pub second_count : length k1 ≡ i
  pub first_degree : All (λ p. length p ≡ n) k0
  pub second_degree : All (λ p. length p ≡ n) k1
  pub first_whole : All IsWhole k0
  pub second_whole : All IsWhole k1
  pub spelled : SpellsBetween start at (pairs_bytes k0 k1) body
  pub in_range : AreInRangeTo body at

-- so many keys of degree n with these elements
pub record AreEach (n : ℕ) (element : ℕ → ℕ) (count : ℕ) (keys : List Key) : Type 0 where
  pub count_is : length keys ≡ count
  pub each : All IsKey keys
  pub degree : All (λ key. key_degree key ≡ n) keys
  pub elements : map (λ key. key.element) keys ≡ map element (range_with_len 0 count)

-- the first i keys are read, up to the residue `at`
pub record AreReadKeys (n : ℕ) (element : ℕ → ℕ) (start i at : ℕ) (keys : List Key) (body : List ℕ)
    : Type 0 where
  pub at_is : at ≡ start + i * (24 * n)
  pub keys_are : AreEach n element i keys
  pub spelled : SpellsBetween start at (flat_map key_bytes keys) body
  pub in_range : AreInRangeTo body at

-- the body spells a key set of degree n with so many levels
pub record IsSetRead (n levels : ℕ) (keys : Keys) (body : List ℕ) : Type 0 where
  pub set : AreKeys keys
  pub degree : keys_degree keys ≡ n
  pub level_count : length keys.expansions ≡ levels
  pub spelled : body ≡ keys_bytes keys
