-- How much noise the replies of a library have, and which shapes leave room for it.
use Rattle.std.specs.Prelude.{ℕ, ◌+◌, ◌-◌, ◌*◌, ◌/◌, ◌^◌, ◌≤◌, ◌<◌, nat_le, nat_lt, if◌then◌else◌, Result, Ok, Err}
use Rattle.co_math.specs.Parameters.{q}
use Rattle.co_math.specs.Bounds.{plain_half, fresh_bound, switch_bound}
use Rattle.co_noise.specs.Shapes.{Numbers, keyword_blocks}
use Rattle.co_math.specs.Logarithms.{log2_up}
use Rattle.co_noise.specs.declared.testing.TestFault.{TestFault}
use Rattle.co_noise.specs.declared.testing.TestFault.TheVariants.{RowsOverDegree, Score, Records, Bins}

-- S, for a score reply: a sum over keyword blocks and rotations of rotated queries times plain
-- polynomials
unfoldable pub score_bound : Numbers → ℕ
score_bound s = keyword_blocks s * (s.degree / 2) * s.degree * plain_half
    * (fresh_bound + log2_up (s.degree / 2) * switch_bound s.degree)

-- A(rows), for a retrieval's reply: a sum over the rows of expanded queries times plain polynomials
unfoldable pub retrieve_bound : ℕ → ℕ → ℕ
retrieve_bound degree rows = rows * degree * plain_half * (2 ^ log2_up rows * fresh_bound
    + (2 ^ log2_up rows - 1) * switch_bound degree)

-- the shape where it passes the test, else the first comparison that fails
unfoldable pub test_of : Numbers → Result Numbers TestFault
test_of s =
    if nat_lt s.degree s.rows then Err (RowsOverDegree s.rows s.degree)
    else if nat_lt s.degree s.bins then Err (RowsOverDegree s.bins s.degree)
    else if nat_le q (2 * score_bound s) then Err (Score (score_bound s))
    else if nat_le q (2 * retrieve_bound s.degree s.rows)
    then Err (Records (retrieve_bound s.degree s.rows))
    else if nat_le q (2 * retrieve_bound s.degree s.bins)
    then Err (Bins (retrieve_bound s.degree s.bins))
    else Ok s

-- rows and bins fit one polynomial, and twice each bound is below q
pub record HasRoom (s : Numbers) : Type 0 where
  pub rows : s.rows ≤ s.degree
  pub bins : s.bins ≤ s.degree
  pub score_fits : 2 * score_bound s < q
  pub records_fit : 2 * retrieve_bound s.degree s.rows < q
  pub bins_fit : 2 * retrieve_bound s.degree s.bins < q
