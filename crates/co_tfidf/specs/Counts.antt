-- How often a term stands in a list, and in how many documents.
use Rattle.std.specs.Prelude.{ℕ, Bool, List, count_by}
use Rattle.std.specs.List.{list_any}
use Rattle.std.specs.Str.{bytes_eq}
use Rattle.co_text.specs.Terms.{terms}
use Rattle.co_corpus.specs.declared.documents.Document.{Document}

-- how often a term stands in a list
abbrev pub term_frequency : List ℕ → List (List ℕ) → ℕ
term_frequency w ts = count_by (bytes_eq w) ts

-- the document has the term
abbrev pub has : List ℕ → Document → Bool
has w d = list_any (bytes_eq w) (terms d.text)

-- how many documents have the term
abbrev pub document_frequency : List ℕ → List Document → ℕ
document_frequency w documents = count_by (has w) documents
