-- What the entries of an index say of one term and one document.
use Rattle.std.proofs.Common.{◌≡◌, ℕ, ◌+◌, Bool, true, false, cond, ◌==◌, List, [], ◌∷◌, ◌++◌, refl, ◌∙◌, subst, arith, nat_lt}
use Rattle.std.proofs.lemmas.Bool.{ltb-false, eqb-true}
use borrow.Author.Tests.{eq-eqb}
use Rattle.co_corpus.specs.declared.documents.Document.{Document}
use Rattle.co_tfidf.specs.Weight.{weight}
use Rattle.co_tfidf.specs.Entries.{term_entries, entries}
use Rattle.co_tfidf.specs.EntryScores.{weight_at}

weight_at-append : (t d : ℕ) (xs ys : List (ℕ × ℕ × ℕ)) → weight_at t d (xs ++ ys) ≡ weight_at t d xs + weight_at t d ys
weight_at-append t d [] ys = omega arith
weight_at-append t d (x ∷ xs) ys = omega (arith, weight_at-append t d xs ys)

-- the weight of w in the document at d, where the first of ds has the number m
abbrev pub weight_from : List Document → List ℕ → ℕ → List Document → ℕ → ℕ
weight_from documents w m [] d = 0
weight_from documents w m (e ∷ es) d = (cond (m == d) (weight documents w e) 0) + weight_from documents w (m + 1) es d

eqb-refl : (t : ℕ) → (t == t) ≡ true
eqb-refl t = eq-eqb t t refl

same_term_at : (documents : List Document) (t : ℕ) (w : List ℕ) (m d : ℕ) (e : Document) (es : List Document)
    → weight_at t d (term_entries documents t w (m + 1) es) ≡ weight_from documents w (m + 1) es d
    → (x : ℕ) → weight documents w e ≡ x → (b : Bool) → nat_lt 0 x ≡ b
    → weight_at t d (cond b ((t, m, x) ∷ term_entries documents t w (m + 1) es) (term_entries documents t w (m + 1) es)) ≡ (cond (m == d) x 0) + weight_from documents w (m + 1) es d
same_term_at documents t w m d e es rest x is true some = rw (eqb-refl t) (omega (arith, rest))
same_term_at documents t w m d e es rest x is false none =
    let nothing : x ≡ 0 = omega (arith, ltb-false 0 x none) in
    rest ∙ rw nothing (elim (m == d) as (λ b. weight_from documents w (m + 1) es d ≡ cond b 0 0 + weight_from documents w (m + 1) es d) [ true ↦ omega arith | false ↦ omega arith ])

same_term : (documents : List Document) (t : ℕ) (w : List ℕ) (m d : ℕ) (ds : List Document)
    → weight_at t d (term_entries documents t w m ds) ≡ weight_from documents w m ds d
same_term documents t w m d [] = refl
same_term documents t w m d (e ∷ es) = same_term_at documents t w m d e es (same_term documents t w (m + 1) d es) (weight documents w e) refl (nat_lt 0 (weight documents w e)) refl

other_term_at : (documents : List Document) (t s : ℕ) (w : List ℕ) (m d : ℕ) (e : Document) (es : List Document) → (s == t) ≡ false
    → weight_at t d (term_entries documents s w (m + 1) es) ≡ 0 → (x : ℕ) (b : Bool)
    → weight_at t d (cond b ((s, m, x) ∷ term_entries documents s w (m + 1) es) (term_entries documents s w (m + 1) es)) ≡ 0
other_term_at documents t s w m d e es differs rest x true = rw (differs) (omega (arith, rest))
other_term_at documents t s w m d e es differs rest x false = rest

other_term : (documents : List Document) (t s : ℕ) (w : List ℕ) (m d : ℕ) (ds : List Document) → (s == t) ≡ false
    → weight_at t d (term_entries documents s w m ds) ≡ 0
other_term documents t s w m d [] differs = refl
other_term documents t s w m d (e ∷ es) differs = other_term_at documents t s w m d e es differs (other_term documents t s w (m + 1) d es differs) (weight documents w e) (nat_lt 0 (weight documents w e))

-- the weight of the term with this number, in the document at d
abbrev pub weight_of_number : List Document → ℕ → List (List ℕ) → ℕ → ℕ → ℕ
weight_of_number documents n [] t d = 0
weight_of_number documents n (w ∷ ws) t d = cond (n == t) (weight_from documents w 0 documents d) 0 + weight_of_number documents (n + 1) ws t d

entry_step : (documents : List Document) (n t d : ℕ) (w : List ℕ) (b : Bool) → (n == t) ≡ b
    → weight_at t d (term_entries documents n w 0 documents) ≡ cond b (weight_from documents w 0 documents d) 0
entry_step documents n t d w true same = subst (λ u. weight_at u d (term_entries documents n w 0 documents) ≡ weight_from documents w 0 documents d) (eqb-true n t same) (same_term documents n w 0 d documents)
entry_step documents n t d w false other = other_term documents t n w 0 d documents other

-- the entries say the weights
pub weight_at-entries : (documents : List Document) (n : ℕ) (ws : List (List ℕ)) (t d : ℕ)
    → weight_at t d (entries documents n ws) ≡ weight_of_number documents n ws t d
weight_at-entries documents n [] t d = refl
weight_at-entries documents n (w ∷ ws) t d =
    weight_at-append t d (term_entries documents n w 0 documents) (entries documents (n + 1) ws)
    ∙ rw (entry_step documents n t d w (n == t) refl, weight_at-entries documents (n + 1) ws t d) refl
