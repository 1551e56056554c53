-- A score in units of work: unit k * 2^u + r is subtree r of keyword block k, with the rotations
-- r * 2^w to r * 2^w + 2^w - 1 of its query.
use Rattle.std.specs.Prelude.{ℕ, ◌≡◌, ◌<◌, ◌+◌, ◌*◌, ◌/◌, ◌%◌, ◌^◌, List, length, All}
use Rattle.co_bfv.specs.Ciphertexts.{Ciphertext, ciphertext_sum, plain_product}
use Rattle.co_bfv.specs.Totals.{ciphertext_at, ciphertext_total}
use Rattle.co_rns.specs.Spectra.{PairValues, spectrum_degree}
use Rattle.co_spectra.specs.Sums.{CipherSums, IsCipherSumOf}
use Rattle.co_matvec.specs.Sums.{sum_at}
use Rattle.co_switch.specs.Keys.{Keys}
use Rattle.co_rot.specs.Subtrees.{crown_bits, subtree_bits}
use Rattle.co_crew.specs.Sums.{units_total}
use Rattle.co_matvec.specs.Weights.{WeightMatrix, keyword_blocks, document_blocks}
use Rattle.co_matvec.specs.Replies.{IsDiagonal, AreDiagonals, turned_query}

-- how many units a score has
abbrev pub unit_count : WeightMatrix → Keys → ℕ
unit_count w keys = keyword_blocks w * 2 ^ crown_bits keys

-- what a unit adds to the reply of a document block with these diagonals: the rotations of its
-- subtree times their diagonals
unfoldable pub unit_sum : WeightMatrix → Keys → List Ciphertext → (ℕ → ℕ → List ℕ) → ℕ → Ciphertext
unit_sum w keys query diagonal unit = ciphertext_total w.degree (2 ^ subtree_bits keys) (λ j.
    let k = unit / 2 ^ crown_bits keys in
    let i = unit % 2 ^ crown_bits keys * 2 ^ subtree_bits keys + j in
    plain_product (turned_query keys query k i) (diagonal k i))

-- a worker's sums: for each document block the sum of what these units add
pub record AreUnitSums (w : WeightMatrix) (keys : Keys) (query : List Ciphertext) (units : List ℕ)
    (sums : List CipherSums) : Type 0 where
  pub count : length sums ≡ document_blocks w
  pub degrees : All (λ s. s.degree ≡ w.degree) sums
  pub each : (a : ℕ) (diagonal : ℕ → ℕ → List ℕ) → a < length sums → AreDiagonals w a diagonal
      → IsCipherSumOf (units_total w.degree (unit_sum w keys query diagonal) units) (sum_at sums a)

-- a rotation times the diagonal polynomial of (a, k, i) was added
pub record AddsDiagonal (w : WeightMatrix) (a k i : ℕ) (turned : Ciphertext)
    (before after : CipherSums) : Type 0 where
  pub degree : after.degree ≡ before.degree
  pub is : (c : Ciphertext) (diagonal : List ℕ) → IsDiagonal w a k i diagonal
      → IsCipherSumOf c before
      → IsCipherSumOf (ciphertext_sum c (plain_product turned diagonal)) after

-- rotation i of the query of keyword block k, times its diagonal polynomial, was added to each sum
pub record AddsRotation (w : WeightMatrix) (k i : ℕ) (turned : Ciphertext)
    (before after : List CipherSums) : Type 0 where
  pub count : length after ≡ length before
  pub each : (a : ℕ) → a < length before
      → AddsDiagonal w a k i turned (sum_at before a) (sum_at after a)

-- a worker's sums, and the keyword block whose rotations it adds
pub record Summing : Type 0 where
  pub weights : WeightMatrix
  pub block : ℕ
  pub sums : List CipherSums

-- a sum for each document block, all of one degree, and room for values
pub record AreHeld (w : WeightMatrix) (block : ℕ) (sums : List CipherSums) (room : PairValues)
    : Type 0 where
  pub word : block < keyword_blocks w
  pub count : length sums ≡ document_blocks w
  pub degrees : All (λ s. s.degree ≡ w.degree) sums
  pub room_degree : spectrum_degree room ≡ w.degree

-- a visit of rotation i adds it, times its diagonals, and changes nothing else
pub record Visits (before : Summing) (i : ℕ) (turned : Ciphertext) (after : Summing) : Type 0 where
  pub weights : after.weights ≡ before.weights
  pub block : after.block ≡ before.block
  pub adds : AddsRotation before.weights before.block i turned before.sums after.sums

-- the roots of all subtrees, unit by unit
pub record AreRoots (keys : Keys) (query : List Ciphertext) (units : ℕ) (roots : List Ciphertext)
    : Type 0 where
  pub count : length roots ≡ units
  pub each : (unit : ℕ) → unit < units → ciphertext_at roots unit
      ≡ turned_query keys query (unit / 2 ^ crown_bits keys)
      (unit % 2 ^ crown_bits keys * 2 ^ subtree_bits keys)

-- weights, keys and queries that can be scored
pub record Scored : Type 0 where
  pub weights : WeightMatrix
  pub keys : Keys
  pub query : List Ciphertext

-- the sums are those of these units of a score
pub record IsPartOf (score : Scored) (units : List ℕ) (held : Summing) : Type 0 where
  pub weights : held.weights ≡ score.weights
  pub sums : AreUnitSums score.weights score.keys score.query units held.sums
