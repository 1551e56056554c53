-- Scores of documents for a query.
use Rattle.std.specs.Prelude.{ℕ, if◌then◌else◌, List, map, sum_by}
use Rattle.co_text.specs.Terms.{distinct}
use Rattle.co_corpus.specs.declared.documents.Document.{Document}
use Rattle.co_tfidf.specs.Vocabulary.{is_kept}
use Rattle.co_tfidf.specs.Weight.{weight}

-- the sum of a document's weights of those of the terms that are in the vocabulary
abbrev pub score_of : ℕ → List Document → List (List ℕ) → Document → ℕ
score_of most documents ws d =
    sum_by (λ w. if is_kept most documents w then weight documents w d else 0) ws

-- the score of a document for a query: each distinct term counts once
abbrev pub score : ℕ → List Document → List (List ℕ) → Document → ℕ
score most documents query d = score_of most documents (distinct query) d

-- the scores of the documents
abbrev pub scores : ℕ → List Document → List (List ℕ) → List ℕ
scores most documents query = map (score most documents query) documents
