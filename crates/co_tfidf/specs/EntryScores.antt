-- What the entries of an index say of scores.
use Rattle.std.specs.Prelude.{ℕ, ◌+◌, ◌&&◌, ◌==◌, if◌then◌else◌, List, [], ◌∷◌, slice_get, Option, Some, None}
use Rattle.std.specs.List.{list_any}
use Rattle.std.specs.Str.{bytes_eq}
use Rattle.co_corpus.specs.declared.documents.Document.{Document}
use Rattle.co_tfidf.specs.Weight.{weight}
use Rattle.co_tfidf.specs.Entries.{Entry}

-- the weight of a term in a document, by their numbers
abbrev pub weight_at : ℕ → ℕ → List Entry → ℕ
weight_at term document [] = 0
weight_at term document (e ∷ es) =
    (if (e.0 == term) && (e.1 == document) then e.2 else 0) + weight_at term document es

-- the weight of w in a document, if there is one
abbrev pub weight_in : List Document → List ℕ → Option Document → ℕ
weight_in documents w None = 0
weight_in documents w (Some e) = weight documents w e

-- what a term of a query adds to a document's score, for a vocabulary
abbrev pub term_score : List Document → List (List ℕ) → List ℕ → ℕ → ℕ
term_score documents vocabulary w d =
    if list_any (bytes_eq w) vocabulary then weight_in documents w (slice_get documents d) else 0

-- what the terms of a query add
abbrev pub query_score : List Document → List (List ℕ) → List (List ℕ) → ℕ → ℕ
query_score documents vocabulary [] d = 0
query_score documents vocabulary (w ∷ ws) d =
    term_score documents vocabulary w d + query_score documents vocabulary ws d
