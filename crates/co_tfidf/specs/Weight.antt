-- Quarter bits, and the weight of a term in a document: term frequency times inverse document
-- frequency (K. Spärck Jones, 1972), in whole numbers by a rule of our own.
use Rattle.std.specs.Prelude.{ℕ, zero, suc, ◌*◌, ◌^◌, min, Bool, nat_le, if◌then◌else◌, List, length}
use Rattle.co_text.specs.Terms.{terms}
use Rattle.co_corpus.specs.declared.documents.Document.{Document}
use Rattle.co_tfidf.specs.Counts.{term_frequency, document_frequency}

-- the greatest number up to n that passes, or 0
abbrev pub highest : ℕ → (ℕ → Bool) → ℕ
highest zero p = 0
highest (suc n) p = if p (suc n) then suc n else highest n p

-- the greatest i with 2^i * f^4 ≤ documents^4. No i above 64 has it for up to 65,536 documents and
-- 1 ≤ f
unfoldable pub bits : ℕ → ℕ → ℕ
bits documents f = highest 64 (λ i. nat_le (2 ^ i * f ^ 4) (documents ^ 4))

-- the weight of a term in a document
unfoldable pub weight : List Document → List ℕ → Document → ℕ
weight documents w d = min (term_frequency w (terms d.text)) 63 * bits (length documents)
    (document_frequency w documents)
