-- The postings of a term: the documents that have it, each with how often.
use Rattle.std.specs.Prelude.{ℕ, ◌+◌, ◌==◌, ◌++◌, min, nat_lt, if◌then◌else◌, List, [], ◌∷◌, Option, Some, None, String}
use Rattle.std.specs.Option.{unwrap_or}
use Rattle.std.specs.BTreeMap.{BTreeMap, get_by_text}
use Rattle.co_text.specs.Terms.{terms}
use Rattle.co_corpus.specs.declared.documents.Document.{Document}
use Rattle.co_tfidf.specs.Counts.{term_frequency}
use Rattle.co_tfidf.specs.declared.postings.Posting.{Posting}

-- one occurrence more, in this document: the last posting counts it if it is of the document, else
-- there is a new one
abbrev pub counted : List Posting → ℕ → List Posting
counted [] document = record { document = document; count = 1 } ∷ []
counted (p ∷ []) document =
    if p.document == document then record { document = document; count = min (p.count + 1) 63 } ∷ []
    else p ∷ record { document = document; count = 1 } ∷ []
counted (p ∷ q ∷ ps) document = p ∷ counted (q ∷ ps) document

-- the posting of a document that has a term so often, if it has it
abbrev pub posting : ℕ → ℕ → List Posting
posting document count =
    if nat_lt 0 count then record { document = document; count = min count 63 } ∷ [] else []

-- the postings of a term in these documents, of which the first has this number
abbrev pub postings : List ℕ → ℕ → List Document → List Posting
postings w document [] = []
postings w document (d ∷ ds) =
    posting document (term_frequency w (terms d.text)) ++ postings w (document + 1) ds

-- the last of the postings, where there is one
abbrev pub last_posting : List Posting → Posting
last_posting [] = record { document = 0; count = 0 }
last_posting (p ∷ []) = p
last_posting (p ∷ q ∷ ps) = last_posting (q ∷ ps)

-- a list of postings as a map keeps it: an empty one isn't there
abbrev pub listed : List Posting → Option (List Posting)
listed [] = None
listed (p ∷ ps) = Some (p ∷ ps)

-- the postings that a map has of a term
abbrev pub postings_of : {Y : Type 0} → BTreeMap (String Y) (List Posting) → List ℕ → List Posting
postings_of m w = unwrap_or (get_by_text m w) []
