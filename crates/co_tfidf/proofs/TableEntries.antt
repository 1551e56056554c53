-- The entries that postings give are those of the definition.
use Rattle.std.proofs.Common.{◌≡◌, ℕ, ◌+◌, ◌*◌, Bool, true, false, cond, List, [], ◌∷◌, ◌++◌, length, refl, ap, ◌∙◌, arith, nat_lt}
use Rattle.std.specs.Prelude.{map, flat_map, min}
use Rattle.std.proofs.lemmas.List.{append-nil}
use Rattle.std.proofs.lemmas.List.Concat.{flat_map-append}
use Rattle.std.proofs.lemmas.Bool.{ltb-false}
use Rattle.co_text.specs.Terms.{terms}
use Rattle.co_corpus.specs.declared.documents.Document.{Document}
use Rattle.co_tfidf.specs.declared.postings.Posting.{Posting}
use Rattle.co_tfidf.specs.Counts.{term_frequency, document_frequency}
use Rattle.co_tfidf.specs.Weight.{weight, bits}
use Rattle.co_tfidf.specs.Postings.{posting, postings}
use Rattle.co_tfidf.specs.Entries.{term_entries, entries}
use Rattle.co_tfidf.specs.Tables.{posting_entry, table_entries}
use Rattle.co_tfidf.proofs.CountedTerms.{length-postings}
use Rattle.co_tfidf.proofs.KeptTerms.{tab}

-- what one document gives
abbrev entry : ℕ → ℕ → ℕ → List (ℕ × ℕ × ℕ)
entry term document x = cond (nat_lt 0 x) ((term, document, x) ∷ []) []

posting_at : (term quarters document k : ℕ) (b : Bool) → nat_lt 0 k ≡ b
    → flat_map (posting_entry term quarters) (cond {A = List Posting} b (record { document = document; count = min k 63 } ∷ []) []) ≡ entry term document (min k 63 * quarters)
posting_at term quarters document k true some =
    let same : min (min k 63) 63 ≡ min k 63 = omega arith in
    append-nil _ ∙ ap (λ c. entry term document (c * quarters)) same
posting_at term quarters document k false none =
    let nothing : 0 ≡ min k 63 = omega (arith, ltb-false 0 k none) in
    let product : 0 ≡ 0 * quarters = omega arith in
    ap (entry term document) (product ∙ ap (λ c. c * quarters) nothing)

before_rest : {A : Type 0} (b : Bool) (x : A) (rest : List A) → cond b (x ∷ []) [] ++ rest ≡ cond b (x ∷ rest) rest
before_rest true x rest = refl
before_rest false x rest = refl

of_postings : (documents : List Document) (term : ℕ) (w : List ℕ) (number : ℕ) (ds : List Document)
    → flat_map (posting_entry term (bits (length documents) (document_frequency w documents))) (postings w number ds) ≡ term_entries documents term w number ds
unfolding weight
of_postings documents term w number [] = refl
of_postings documents term w number (d ∷ ds) =
    let quarters : ℕ = bits (length documents) (document_frequency w documents) in
    let k : ℕ = term_frequency w (terms d.text) in
    flat_map-append (posting_entry term quarters) (posting number k) (postings w (number + 1) ds)
    ∙ rw (posting_at term quarters number k (nat_lt 0 k) refl, of_postings documents term w (number + 1) ds)
    (before_rest (nat_lt 0 (min k 63 * quarters)) (term, number, min k 63 * quarters) (term_entries documents term w (number + 1) ds))

pub entries_are : (documents : List Document) (term : ℕ) (ws : List (List ℕ)) → table_entries (length documents) term (map (tab documents) ws) ≡ entries documents term ws
entries_are documents term [] = refl
entries_are documents term (w ∷ ws) =
    rw (length-postings w 0 documents, of_postings documents term w 0 documents, entries_are documents (term + 1) ws) refl
