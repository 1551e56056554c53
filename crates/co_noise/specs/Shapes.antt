-- A library's published numbers, and what follows from them.
use Rattle.std.specs.Prelude.{◌≡◌, ℕ, ◌*◌, ◌/◌, ◌^◌, ◌≤◌, ◌<◌, Bool, ◌&&◌, nat_le, max, if◌then◌else◌, Option, Some, None}
use Rattle.std.specs.Int.{div_ceil}
pub use Rattle.co_math.specs.Degrees.{IsDegree, is_degree}
pub use Rattle.co_math.specs.Logarithms.{log2_up}
use Rattle.co_noise.specs.Limits.{most_documents, most_terms, most_hits, most_rows, most_bins, most_chunks, most_bin}

-- ---- ranges of one number

-- a number from low to high
abbrev pub is_within : ℕ → ℕ → ℕ → Bool
is_within low high n = nat_le low n && nat_le n high

-- a chunk is the payload of one polynomial, 2 * degree bytes, and a bin has at most so many bytes
abbrev pub is_chunk_count : ℕ → ℕ → Bool
is_chunk_count degree chunks =
    is_within 1 most_chunks chunks && nat_le (chunks * (2 * degree)) most_bin

-- ---- the published numbers

-- the eight published numbers, in the order of the published bytes
pub record Numbers : Type 0 where
  pub degree : ℕ
  pub documents : ℕ
  pub terms : ℕ
  pub hits : ℕ
  pub salt : ℕ
  pub rows : ℕ
  pub bins : ℕ
  pub chunks : ℕ

-- the published numbers by name
abbrev pub numbers : ℕ → ℕ → ℕ → ℕ → ℕ → ℕ → ℕ → ℕ → Numbers
numbers degree documents terms hits salt rows bins chunks =
    record {
      degree = degree;
      documents = documents;
      terms = terms;
      hits = hits;
      salt = salt;
      rows = rows;
      bins = bins;
      chunks = chunks;
    }

-- each number is in its range
abbrev pub are_in_range : Numbers → Bool
are_in_range s = is_degree s.degree && is_within 1 most_documents s.documents
    && is_within 0 most_terms s.terms && is_within 1 most_hits s.hits
    && is_within 0 4294967295 s.salt && is_within 1 most_rows s.rows && is_within 1 most_bins s.bins
    && is_chunk_count s.degree s.chunks

-- the numbers where each is in its range, else nothing
abbrev pub shape_of : Numbers → Option Numbers
shape_of s = if are_in_range s then Some s else None

-- the ranges by orders, for callers
pub record HasRanges (s : Numbers) : Type 0 where
  pub degree : IsDegree s.degree
  pub degree_low : 16 ≤ s.degree
  pub degree_high : s.degree ≤ 4096
  pub degree_even : 2 * (s.degree / 2) ≡ s.degree
  pub documents_low : 1 ≤ s.documents
  pub documents_high : s.documents ≤ most_documents
  pub terms_high : s.terms ≤ most_terms
  pub hits_low : 1 ≤ s.hits
  pub hits_high : s.hits ≤ most_hits
  pub salt_high : s.salt < 2 ^ 32
  pub rows_low : 1 ≤ s.rows
  pub rows_high : s.rows ≤ most_rows
  pub bins_low : 1 ≤ s.bins
  pub bins_high : s.bins ≤ most_bins
  pub chunks_low : 1 ≤ s.chunks
  pub chunks_high : s.chunks ≤ most_chunks
  pub bin_high : s.chunks * (2 * s.degree) ≤ most_bin

-- ---- derived numbers

-- how many blocks of half a degree hold the terms, at least one
unfoldable pub keyword_blocks : Numbers → ℕ
keyword_blocks s = max 1 (div_ceil s.terms (s.degree / 2))

-- how many blocks of a degree hold the documents
unfoldable pub document_blocks : Numbers → ℕ
document_blocks s = div_ceil s.documents s.degree

-- the doublings of the longer of the two expansions
unfoldable pub levels : Numbers → ℕ
levels s = max (log2_up s.rows) (log2_up s.bins)
