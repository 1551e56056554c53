-- What plain search finds.
use Rattle.std.specs.Prelude.{◌≡◌, ℕ, ◌-◌, List, nat_eq, if◌then◌else◌, slice_get, Option, Some, None}
use Rattle.co_text.specs.declared.found.Found.{Found}
use Rattle.co_text.specs.declared.found.Hit.{Hit}
use Rattle.co_corpus.specs.declared.documents.Document.{Document}
use Rattle.co_tfidf.specs.declared.index.Index.{Index}
use Rattle.co_text.specs.Terms.{distinct}
use Rattle.co_text.specs.Numbers.{unknown_in}
use Rattle.co_tfidf.specs.Vocabulary.{vocabulary}
use Rattle.co_tfidf.specs.Entries.{entries}
use Rattle.co_tfidf.specs.Hits.{hits_of}

abbrev pub text_or_none : ℕ → Option Document → Option (ℕ × List ℕ)
text_or_none number None = None
text_or_none number (Some d) = Some (number, d.text)

abbrev pub document_of : List Document → Option Hit → Option (ℕ × List ℕ)
document_of documents None = None
document_of documents (Some h) = text_or_none h.document (slice_get documents h.document)

-- the pick-th of the hits
abbrev pub picked : List Document → ℕ → List Hit → Option (ℕ × List ℕ)
picked documents pick hits =
    if nat_eq pick 0 then None else document_of documents (slice_get hits (pick - 1))

-- the plain answer: for a vocabulary of at most `most` terms, at most so many hits, a query's terms
-- and a pick
abbrev pub found : ℕ → List Document → ℕ → List (List ℕ) → ℕ → Found
found most documents hits query pick = record {
  hits = hits_of most documents hits query;
  unknown = unknown_in (vocabulary most documents) (distinct query);
  document = picked documents pick (hits_of most documents hits query);
}

-- the index of a corpus for a vocabulary of at most so many terms
pub record IsIndex (most : ℕ) (documents : List Document) (index : Index) : Type 0 where
  pub terms : index.terms ≡ vocabulary most documents
  pub weights : index.weights ≡ entries documents 0 (vocabulary most documents)
