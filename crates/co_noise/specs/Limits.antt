-- The greatest published numbers, as contracts cite them. Each value stands once, in src/limits.rt.
use Rattle.std.specs.Prelude.{ℕ}
use Rattle.co_noise.specs.declared.limits.TheConstants.{MOST_DOCUMENTS, MOST_TERMS, MOST_HITS, MOST_ROWS, MOST_BINS, MOST_CHUNKS, MOST_BIN_BYTES}

abbrev pub most_documents : ℕ
most_documents = MOST_DOCUMENTS

abbrev pub most_terms : ℕ
most_terms = MOST_TERMS

abbrev pub most_hits : ℕ
most_hits = MOST_HITS

abbrev pub most_rows : ℕ
most_rows = MOST_ROWS

abbrev pub most_bins : ℕ
most_bins = MOST_BINS

abbrev pub most_chunks : ℕ
most_chunks = MOST_CHUNKS

-- bytes
abbrev pub most_bin : ℕ
most_bin = MOST_BIN_BYTES
