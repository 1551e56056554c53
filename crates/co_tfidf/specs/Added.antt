-- Steps on the way to scores: entries that are added up.
use Rattle.std.specs.Prelude.{ℕ, ◌+◌, ◌<◌, ◌==◌, if◌then◌else◌, List, [], ◌∷◌, All}
use Rattle.co_tfidf.specs.Entries.{Entry}

-- the sum of the weights of these entries that are of a document
abbrev pub document_weight : ℕ → List Entry → ℕ
document_weight document [] = 0
document_weight document (e ∷ es) =
    (if e.1 == document then e.2 else 0) + document_weight document es

-- each entry's document is below this number
abbrev pub AllWithin : ℕ → List Entry → Type 0
AllWithin documents es = All (λ e. e.1 < documents) es
