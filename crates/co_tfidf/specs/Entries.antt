-- The weights of an index, one for each term and document where it is at least 1.
use Rattle.std.specs.Prelude.{◌≡◌, ◌≤◌, ◌<◌, ℕ, ◌+◌, ◌++◌, ◌==◌, ◌&&◌, ◌||◌, Bool, true, nat_lt, if◌then◌else◌, List, [], ◌∷◌, Option, Some, None}
use Rattle.co_corpus.specs.declared.documents.Document.{Document}
use Rattle.co_tfidf.specs.Weight.{weight}
use Rattle.co_tfidf.specs.declared.postings.TheConstants.{MOST_WEIGHT}

-- the number of a term, the number of a document that has it, and its weight there
abbrev pub Entry : Type 0
Entry = ℕ × ℕ × ℕ

-- the entries of a term with this number, for documents from this number on
abbrev pub term_entries : List Document → ℕ → List ℕ → ℕ → List Document → List Entry
term_entries documents term w number [] = []
term_entries documents term w number (d ∷ ds) =
    let x = weight documents w d in
    if nat_lt 0 x then (term, number, x) ∷ term_entries documents term w (number + 1) ds
    else term_entries documents term w (number + 1) ds

-- the entries of these terms, the first of which has this number
abbrev pub entries : List Document → ℕ → List (List ℕ) → List Entry
entries documents term [] = []
entries documents term (w ∷ ws) =
    term_entries documents term w 0 documents ++ entries documents (term + 1) ws

-- the order of entries: by term, and of one term by document, after the entry before
abbrev pub is_later : Option Entry → ℕ → ℕ → Bool
is_later None term document = true
is_later (Some before) term document =
    nat_lt before.0 term || before.0 == term && nat_lt before.1 document

-- an entry that comes after the one before it, among so many terms and documents
pub record IsEntry (terms documents : ℕ) (before : Option Entry) (e : Entry) : Type 0 where
  pub term : e.0 < terms
  pub document : e.1 < documents
  pub later : is_later before e.0 e.1 ≡ true
  pub some : 1 ≤ e.2
  pub few : e.2 ≤ MOST_WEIGHT

-- entries in order, after the one before them
abbrev pub AreEntries : ℕ → ℕ → Option Entry → List Entry → Type 0
AreEntries terms documents before [] = Unit {0}
AreEntries terms documents before (e ∷ es) =
    IsEntry terms documents before e × AreEntries terms documents (Some e) es
