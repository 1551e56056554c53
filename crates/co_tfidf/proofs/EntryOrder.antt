-- The entries of terms are in order, and their weights are 1 to 4032.
use Rattle.std.proofs.Common.{◌≡◌, ℕ, ◌+◌, ◌≤◌, ◌<◌, ◌⊎◌, Bool, true, false, cond, List, [], ◌∷◌, ◌++◌, length, Option, Some, None, refl, sym, subst, inl, inr, arith}
use Rattle.std.specs.Prelude.{◌&&◌, ◌==◌, nat_lt}
use Rattle.std.proofs.lemmas.Bool.{ltb-true, lt-ltb, eq-eqb, or_left, or_right, and_from}
use Rattle.co_corpus.specs.declared.documents.Document.{Document}
use Rattle.co_tfidf.specs.Weight.{weight}
use Rattle.co_tfidf.specs.Entries.{Entry, term_entries, entries, is_later, IsEntry, AreEntries}
use Rattle.co_tfidf.proofs.Scores.{weight_le}

-- the entry, where there is one, is before this term and document
IsBefore : Option Entry → ℕ → ℕ → Type 0
IsBefore None term document = Unit {0}
IsBefore (Some e) term document = (e.0 < term) ⊎ ((e.0 ≡ term) × (e.1 < document))

later : (before : Option Entry) (term document : ℕ) → IsBefore before term document → is_later before term document ≡ true
unfolding IsBefore
later None term document h = refl
later (Some e) term document (inl less) = or_left (nat_lt e.0 term) (e.0 == term && nat_lt e.1 document) (lt-ltb e.0 term less)
later (Some e) term document (inr same) = or_right (nat_lt e.0 term) (e.0 == term && nat_lt e.1 document) (and_from (e.0 == term) (nat_lt e.1 document) (eq-eqb e.0 term same.0) (lt-ltb e.1 document same.1))

next_document : (before : Option Entry) (term document : ℕ) → IsBefore before term document → IsBefore before term (document + 1)
unfolding IsBefore
next_document None term document h = tt
next_document (Some e) term document (inl less) = inl less
next_document (Some e) term document (inr same) = inr (same.0, omega (arith, same.1))

next_term : (before : Option Entry) (term document : ℕ) → IsBefore before term document → IsBefore before (term + 1) 0
unfolding IsBefore
next_term None term document h = tt
next_term (Some e) term document (inl less) = inl (omega arith)
next_term (Some e) term document (inr same) = inl (omega (arith, same.0))

own : (term document x : ℕ) → IsBefore (Some (term, document, x)) term (document + 1)
unfolding IsBefore
own term document x = inr (refl, omega arith)

module _ (terms : ℕ) (documents : List Document) where
  one : (before : Option Entry) (term number x : ℕ) → term < terms → number < length documents → IsBefore before term number → x ≤ 4032 → nat_lt 0 x ≡ true
      → IsEntry terms (length documents) before (term, number, x)
  one before term number x in_terms in_documents before_it few some = record {
    term = in_terms;
    document = in_documents;
    later = later before term number before_it;
    some = ltb-true 0 x some;
    few = few;
  }

  keep : (term number x : ℕ) (rest : List Entry) (before : Option Entry) → term < terms → number < length documents → x ≤ 4032 → IsBefore before term number
      → ((b : Option Entry) → IsBefore b term (number + 1) → AreEntries terms (length documents) b rest)
      → (b : Bool) → nat_lt 0 x ≡ b → AreEntries terms (length documents) before (cond b ((term, number, x) ∷ rest) rest)
  keep term number x rest before in_terms in_documents few before_it others true is =
      (one before term number x in_terms in_documents before_it few is, others (Some (term, number, x)) (own term number x))
  keep term number x rest before in_terms in_documents few before_it others false is = others before (next_document before term number before_it)

  joined : (b : Bool) (e : Entry) (xs ys : List Entry) → cond b (e ∷ xs) xs ++ ys ≡ cond b (e ∷ (xs ++ ys)) (xs ++ ys)
  joined true e xs ys = refl
  joined false e xs ys = refl

  of_term : (term : ℕ) (w : List ℕ) (number : ℕ) (ds : List Document) (rest : List Entry) (before : Option Entry) → term < terms → number + length ds ≤ length documents → IsBefore before term number
      → ((b : Option Entry) → IsBefore b (term + 1) 0 → AreEntries terms (length documents) b rest)
      → AreEntries terms (length documents) before (term_entries documents term w number ds ++ rest)
  of_term term w number [] rest before in_terms in_documents before_it others = others before (next_term before term number before_it)
  of_term term w number (d ∷ ds) rest before in_terms in_documents before_it others =
      let x = weight documents w d in
      let more = term_entries documents term w (number + 1) ds in
      subst (λ (es : List Entry). AreEntries terms (length documents) before es) (sym (joined (nat_lt 0 x) (term, number, x) more rest))
      (keep term number x (more ++ rest) before in_terms (omega arith) (weight_le documents w d) before_it (λ b is. of_term term w (number + 1) ds rest b in_terms (omega arith) is others) (nat_lt 0 x) refl)

  of_terms : (term : ℕ) (ws : List (List ℕ)) (before : Option Entry) → term + length ws ≤ terms → IsBefore before term 0 → AreEntries terms (length documents) before (entries documents term ws)
  of_terms term [] before in_terms before_it = tt
  of_terms term (w ∷ ws) before in_terms before_it =
      of_term term w 0 documents (entries documents (term + 1) ws) before (omega arith) (omega arith) before_it (λ b is. of_terms (term + 1) ws b (omega arith) is)

pub entries_in_order : (documents : List Document) (ws : List (List ℕ)) → AreEntries (length ws) (length documents) None (entries documents 0 ws)
unfolding IsBefore
entries_in_order documents ws = of_terms (length ws) documents 0 ws None (omega arith) tt
