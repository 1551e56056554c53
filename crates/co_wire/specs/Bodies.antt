-- The bytes of polynomials modulo q, of ciphertexts and of key sets.
use Rattle.std.specs.Prelude.{◌≡◌, ℕ, ◌*◌, ◌%◌, ◌<◌, ◌≤◌, ◌==◌, if◌then◌else◌, List, [], ◌∷◌, ◌++◌, length, take, drop, All}
use Rattle.std.specs.Int.{w64, to_le_bytes, from_le_bytes}
use Rattle.std.specs.List.{flat_map}
use Rattle.co_math.specs.Parameters.{first_modulus, second_modulus}
use Rattle.co_noise.specs.Shapes.{Numbers, levels}
use Rattle.co_bfv.specs.Ciphertexts.{Ciphertext, IsCiphertext, ciphertext_degree}
use Rattle.co_switch.specs.Keys.{Key, Keys, AreKeys, keys_degree}

-- ---- spelling

-- a residue: seven bytes, the lowest first
unfoldable pub residue_bytes : ℕ → List ℕ
residue_bytes r = take 7 (to_le_bytes w64 r)

-- a coefficient modulo q: its residue modulo q1, then its residue modulo q2
abbrev pub coefficient_bytes : ℕ → List ℕ
coefficient_bytes x = residue_bytes (x % first_modulus) ++ residue_bytes (x % second_modulus)

-- a polynomial modulo q: its coefficients, the constant first
unfoldable pub polynomial_bytes : List ℕ → List ℕ
polynomial_bytes xs = flat_map coefficient_bytes xs

-- c0, then c1
abbrev pub cipher_bytes : Ciphertext → List ℕ
cipher_bytes c = polynomial_bytes c.c0 ++ polynomial_bytes c.c1

-- one ciphertext after another
abbrev pub ciphers_bytes : List Ciphertext → List ℕ
ciphers_bytes cs = flat_map cipher_bytes cs

-- the pairs of a key's digits in order: of each pair the first polynomial, then the second
unfoldable pub pairs_bytes : List (List ℕ) → List (List ℕ) → List ℕ
pairs_bytes [] ys = []
pairs_bytes (x ∷ xs) [] = []
pairs_bytes (x ∷ xs) (y ∷ ys) = polynomial_bytes x ++ (polynomial_bytes y ++ pairs_bytes xs ys)

-- a key
abbrev pub key_bytes : Key → List ℕ
key_bytes key = pairs_bytes key.k0 key.k1

-- a key set: the rotation keys in order, then the expansion keys; the elements are known and aren't
-- spelled
abbrev pub keys_bytes : Keys → List ℕ
keys_bytes keys = flat_map key_bytes keys.rotations ++ flat_map key_bytes keys.expansions

-- ---- what bodies spell

-- so many ciphertexts of degree n
pub record AreCiphers (n count : ℕ) (cs : List Ciphertext) : Type 0 where
  pub count_is : length cs ≡ count
  pub ciphers : All IsCiphertext cs
  pub degrees : All (λ c. ciphertext_degree c ≡ n) cs

-- the body spells these ciphertexts
pub record SpellsCiphers (n count : ℕ) (cs : List Ciphertext) (body : List ℕ) : Type 0 where
  pub ciphers : AreCiphers n count cs
  pub spelled : body ≡ ciphers_bytes cs

-- a key set for a shape: of its degree, with as many expansion keys as it has levels
pub record AreKeysFor (s : Numbers) (keys : Keys) : Type 0 where
  pub set : AreKeys keys
  pub degree : keys_degree keys ≡ s.degree
  pub level_count : length keys.expansions ≡ levels s

-- the body spells this key set
pub record SpellsKeys (s : Numbers) (keys : Keys) (body : List ℕ) : Type 0 where
  pub keys_for : AreKeysFor s keys
  pub spelled : body ≡ keys_bytes keys

-- ---- residues out of range

-- the i-th residue of a body
unfoldable pub residue_at : List ℕ → ℕ → ℕ
residue_at body i = from_le_bytes w64 (take 7 (drop (7 * i) body) ++ 0 ∷ [])

-- what it is to be below: q1 and q2 in turn
abbrev pub modulus_at : ℕ → ℕ
modulus_at i = if i % 2 == 0 then first_modulus else second_modulus

-- the offset of the first residue that is at or above its modulus
pub record IsFirstOutOfRange (body : List ℕ) (place : ℕ) : Type 0 where
  pub which : ℕ
  pub is : place ≡ 7 * which
  pub within : place < length body
  pub here : modulus_at which ≤ residue_at body which
  pub before : (k : ℕ) → k < which → residue_at body k < modulus_at k
