-- What the ciphertexts of a retrieval mean.
use Rattle.std.specs.Prelude.{ℕ, ℤ, ◌+◌, ◌-◌, ◌*◌, ◌^◌, ◌<◌, ◌≤◌, ◌≡◌, List, length, All}
use Rattle.co_math.specs.Polynomials.{IsWrapped}
use Rattle.co_math.specs.Bounds.{fresh_bound, switch_bound}
use Rattle.co_math.specs.Coefficients.{coefficients, AreBelow}
use Rattle.co_ring.specs.Polynomials.{polynomial_of}
use Rattle.co_math.specs.Logarithms.{log2_up}
use Rattle.co_bfv.specs.Ciphertexts.{Ciphertext, IsCiphertext, ciphertext_degree, MeansWithin}
use Rattle.co_switch.specs.Keys.{Keys, IsGoodKey, AreKeys, keys_degree}
use Rattle.co_pir.specs.Expansions.{expanded}
use Rattle.co_pir.specs.Messages.{query_polynomial, chosen}
use Rattle.co_bfv.specs.Totals.{ciphertext_at}
use Rattle.co_pir.specs.Tables.{Table, IsTable, payload, piece}

-- under the secret s, for which the expansion keys are good, the query is a fresh one for a row of
-- so many rows
pub record AsksRow (s : ℤ → ℤ) (keys : Keys) (query : Ciphertext) (rows row : ℕ) : Type 0 where
  pub secret : IsWrapped (ciphertext_degree query) s
  pub good : All (IsGoodKey s) keys.expansions
  pub within : row < rows
  pub asks : MeansWithin s query
      (polynomial_of (query_polynomial (ciphertext_degree query) rows row)) fresh_bound

-- the noise of an expanded query: each of l levels doubles it and adds that of a key switch
abbrev pub expansion_bound : ℕ → ℕ → ℕ
expansion_bound degree rows =
    2 ^ log2_up rows * fresh_bound + (2 ^ log2_up rows - 1) * switch_bound degree

-- an expansion for so many rows, and what it means
pub record IsExpansion (keys : Keys) (query : Ciphertext) (rows : ℕ) (cs : List Ciphertext)
    : Type 0 where
  pub items : cs ≡ expanded keys query (log2_up rows)
  pub enough : rows ≤ length cs
  pub means : (s : ℤ → ℤ) (row r : ℕ) → AsksRow s keys query rows row → r < rows
      → MeansWithin s (ciphertext_at cs r) (chosen (ciphertext_degree query) row r)
      (expansion_bound (ciphertext_degree query) rows)

-- the ciphertexts mean the payload polynomials of these bytes, piece by piece, within b
pub record MeansBytes (n : ℕ) (s : ℤ → ℤ) (cs : List Ciphertext) (bytes : List ℕ) (b : ℕ)
    : Type 0 where
  pub len : length bytes ≡ length cs * (2 * n)
  pub below : AreBelow 256 bytes
  pub means : (c : ℕ) → c < length cs
      → MeansWithin s (ciphertext_at cs c) (coefficients (payload n (piece (2 * n) c bytes))) b

-- a table, keys and a query of one degree, with a key for each level of the query's expansion
pub record CanRetrieve (t : Table) (keys : Keys) (query : Ciphertext) : Type 0 where
  pub table : IsTable t
  pub key_set : AreKeys keys
  pub whole : IsCiphertext query
  pub query_degree : ciphertext_degree query ≡ t.degree
  pub keys_of_degree : keys_degree keys ≡ t.degree
  pub enough_keys : log2_up t.rows ≤ length keys.expansions
