-- Keys that switch a ciphertext from s(X^g) back to s, and sets of them.
-- Galois automorphisms and their keys: Gentry, Halevi and Smart, Fully Homomorphic Encryption with
-- Polylog Overhead, 2012.
use Rattle.std.specs.Prelude.{ℕ, ℤ, pos, ◌+◌, ◌*◌, ◌/◌, ◌%◌, ◌^◌, ◌-ℤ◌, ◌*ℤ◌, ◌≡◌, ◌<◌, ◌≤◌, List, [], map, length, slice_index_or, All, unsigned_abs}
use Rattle.std.specs.List.{range_with_len}
use Rattle.co_math.specs.Parameters.{q, digit_base, digit_count, error_bound}
use Rattle.co_math.specs.Coefficients.{coefficients, IsDegree}
use Rattle.co_math.specs.Meanings.{centred, phase}
use Rattle.co_rns.specs.Pairs.{IsWhole}
use Rattle.co_rns.specs.Spectra.{PairValues, IsSpectrumOf, spectrum_degree}
use Rattle.co_math.specs.Polynomials.{substitution}

-- for the Galois element g, a pair of polynomials modulo q for each digit
pub record Key : Type 0 where
  pub element : ℕ
  pub k0 : List (List ℕ)
  pub k1 : List (List ℕ)

-- the polynomial at a place
abbrev pub part : List (List ℕ) → ℕ → List ℕ
part polynomials j = slice_index_or polynomials j []

abbrev pub key_degree : Key → ℕ
key_degree key = length (part key.k0 0)

-- a pair of polynomials modulo q for each digit, all of one degree n; the element is odd and below
-- 2n
pub record IsKey (key : Key) : Type 0 where
  pub degree : IsDegree (key_degree key)
  pub k0_count : length key.k0 ≡ digit_count
  pub k1_count : length key.k1 ≡ digit_count
  pub k0_degree : All (λ p. length p ≡ key_degree key) key.k0
  pub k1_degree : All (λ p. length p ≡ key_degree key) key.k1
  pub k0_whole : All IsWhole key.k0
  pub k1_whole : All IsWhole key.k1
  pub odd : key.element % 2 ≡ 1
  pub within : key.element < 2 * key_degree key

-- the values of six polynomials of n coefficients, one by one
pub record AreSpectra (n : ℕ) (polynomials : List (List ℕ)) (values : List PairValues)
    : Type 0 where
  pub count : length values ≡ digit_count
  pub degree : (j : ℕ) → j < digit_count → length (part polynomials j) ≡ n
  pub each : (j : ℕ) (d : PairValues) → j < digit_count
      → IsSpectrumOf n (coefficients (part polynomials j)) (slice_index_or values j d)

-- six lists of values, each of n
pub record AreOfDegree (n : ℕ) (values : List PairValues) : Type 0 where
  pub count : length values ≡ digit_count
  pub degree : (j : ℕ) (d : PairValues) → j < digit_count
      → spectrum_degree (slice_index_or values j d) ≡ n

-- room for the digits of a polynomial of n coefficients, and for the values of three of them
pub record IsDigitRoom (n : ℕ) (digits : List ℕ) (low middle high : PairValues) : Type 0 where
  pub digits_degree : length digits ≡ n
  pub low_degree : spectrum_degree low ≡ n
  pub middle_degree : spectrum_degree middle ≡ n
  pub high_degree : spectrum_degree high ≡ n

-- what is kept with a key: tables of its degree, and the values of its polynomials
pub record IsKept (key : Key) (tables : ℕ) (values0 values1 : List PairValues) : Type 0 where
  pub whole_key : IsKey key
  pub tables_degree : tables ≡ key_degree key
  pub k0_values : AreSpectra tables key.k0 values0
  pub k1_values : AreSpectra tables key.k1 values1

-- each k0_j + k1_j * s - W^j * s(X^g), centred modulo q, has coefficients in -21..21
pub record IsGoodKey (s : ℤ → ℤ) (key : Key) : Type 0 where
  pub within : (j : ℕ) → j < digit_count → (k : ℤ)
      → unsigned_abs (centred q (phase (key_degree key) s (coefficients (part key.k0 j))
      (coefficients (part key.k1 j)) k
      -ℤ pos (digit_base ^ j) *ℤ substitution (key_degree key) key.element s k)) ≤ error_bound

-- the keys of a client: for the rotations of slots, and for expansions
pub record Keys : Type 0 where
  pub rotations : List Key
  pub expansions : List Key

-- n, where there are log2(n / 2) rotation keys
abbrev pub keys_degree : Keys → ℕ
keys_degree keys = 2 * 2 ^ length keys.rotations

-- 3^(2^b) modulo 2n, which moves slot j + 2^b to slot j
abbrev pub rotation_element : ℕ → ℕ → ℕ
rotation_element n b = 3 ^ (2 ^ b) % (2 * n)

-- n / 2^j + 1, which keeps the even multiples of X^(2^j) and turns the odd ones
abbrev pub expansion_element : ℕ → ℕ → ℕ
expansion_element n j = n / 2 ^ j + 1

-- keys of degree n with these elements, in order
pub record AreKeysOf (n : ℕ) (element : ℕ → ℕ) (keys : List Key) : Type 0 where
  pub each : All IsKey keys
  pub degree : All (λ key. key_degree key ≡ n) keys
  pub elements : map (λ key. key.element) keys ≡ map element (range_with_len 0 (length keys))

-- log2(n / 2) rotation keys and at most log2 n expansion keys, all of degree n
pub record AreKeys (keys : Keys) : Type 0 where
  pub degree : IsDegree (keys_degree keys)
  pub rotations : AreKeysOf (keys_degree keys) (rotation_element (keys_degree keys)) keys.rotations
  pub expansions : AreKeysOf (keys_degree keys) (expansion_element (keys_degree keys))
      keys.expansions
  pub few_expansions : length keys.expansions ≤ length keys.rotations + 1

pub record AreGoodKeys (s : ℤ → ℤ) (keys : Keys) : Type 0 where
  pub rotations : All (IsGoodKey s) keys.rotations
  pub expansions : All (IsGoodKey s) keys.expansions

-- stands where a list of keys has none
abbrev pub no_key : Key
no_key = record { element = 0; k0 = []; k1 = [] }

abbrev pub rotation_key : Keys → ℕ → Key
rotation_key keys b = slice_index_or keys.rotations b no_key

abbrev pub expansion_key : Keys → ℕ → Key
expansion_key keys j = slice_index_or keys.expansions j no_key
