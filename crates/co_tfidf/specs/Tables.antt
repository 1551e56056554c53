-- Steps on the way to an index: maps from terms to postings, as lists, and the entries that they
-- give.
use Rattle.std.specs.Prelude.{ℕ, ◌+◌, ◌*◌, ◌++◌, min, nat_lt, if◌then◌else◌, List, [], ◌∷◌, length, flat_map, String, string_bytes}
use Rattle.std.specs.declared.cmp.Ordering.{Ordering}
use Rattle.std.specs.declared.cmp.Reverse.{Reverse}
use Rattle.std.specs.Ordering.{nat_cmp, ordering_then}
use Rattle.std.specs.Cmp.Lexicographic.{slice_cmp}
use Rattle.std.specs.BTreeMap.{insert_entry}
use Rattle.co_tfidf.specs.declared.postings.Posting.{Posting}
use Rattle.co_tfidf.specs.Weight.{bits}
use Rattle.co_tfidf.specs.Entries.{Entry}

-- an entry, its key by the bytes
abbrev pub shown : {Y : Type 0} → String Y × List Posting → List ℕ × List Posting
shown e = (string_bytes e.0, e.1)

-- an entry that is ranked by how many documents have the term
abbrev pub shown_ranked : {Y : Type 0} → (Reverse ℕ × String Y) × List Posting
    → (Reverse ℕ × List ℕ) × List Posting
shown_ranked e = ((e.0.0, string_bytes e.0.1), e.1)

abbrev pub ranked_as : {Y : Type 0} → String Y × List Posting → (Reverse ℕ × List ℕ) × List Posting
ranked_as e = ((record { 0 = length e.1 }, string_bytes e.0), e.1)

-- the entry without its rank
abbrev pub unranked : (Reverse ℕ × List ℕ) × List Posting → List ℕ × List Posting
unranked e = (e.0.1, e.1)

-- keys with higher numbers first, and of equal numbers the lower in bytes
abbrev pub term_cmp : Reverse ℕ × List ℕ → Reverse ℕ × List ℕ → Ordering
term_cmp a b = ordering_then (nat_cmp b.0.0 a.0.0) (slice_cmp nat_cmp a.1 b.1)

-- these entries put among others, one after another
abbrev pub put_all : {K X : Type 0} → (K → K → Ordering) → List (K × X)
    → List (K × X) → List (K × X)
put_all cmp es [] = es
put_all cmp es (x ∷ xs) = put_all cmp (insert_entry cmp es x.0 x.1) xs

-- the entry of a posting, for a term with this number and these quarter bits
abbrev pub posting_entry : ℕ → ℕ → Posting → List Entry
posting_entry term quarters p =
    if nat_lt 0 (min p.count 63 * quarters) then (term, p.document, min p.count 63 * quarters) ∷ []
    else []

-- the entries of the postings of terms, the first of which has this number, among so many documents
abbrev pub table_entries : ℕ → ℕ → List (List ℕ × List Posting) → List Entry
table_entries documents term [] = []
table_entries documents term (e ∷ es) = flat_map (posting_entry term (bits documents (length e.1)))
    e.1 ++ table_entries documents (term + 1) es
