-- The entries of one term: they stand together, since entries ascend by terms.
use Rattle.std.proofs.Common.{◌≡◌, ℕ, zero, suc, ◌+◌, ◌≤◌, ◌==◌, ◌&&◌, Bool, true, false, cond, List, [], ◌∷◌, ◌++◌, refl, ap, arith, nat_lt}
use Rattle.std.specs.Prelude.{All, filter}
use Rattle.std.specs.List.Sorted.{IsNonDecreasingBy}
use Rattle.co_corpus.specs.declared.documents.Document.{Document}
use Rattle.co_tfidf.specs.Weight.{weight}
use Rattle.co_tfidf.specs.Entries.{term_entries, entries}
use Rattle.co_tfidf.specs.EntryScores.{weight_at}
use Rattle.co_tfidf.specs.Added.{document_weight}
use Rattle.std.proofs.lemmas.List.Elements.{All-cons, All-nil}

-- what the entries of a term add
weight_step : (t d : ℕ) (e : ℕ × ℕ × ℕ) (es : List (ℕ × ℕ × ℕ)) → weight_at t d es ≡ document_weight d (filter (λ x. x.0 == t) es) → (b : Bool)
    → cond (b && (e.1 == d)) e.2 0 + weight_at t d es ≡ document_weight d (cond b (e ∷ filter (λ x. x.0 == t) es) (filter (λ x. x.0 == t) es))
weight_step t d e es rest true = ap (λ n. cond (e.1 == d) e.2 0 + n) rest
weight_step t d e es rest false = omega (arith, rest)

pub weight_of_filter : (t d : ℕ) (es : List (ℕ × ℕ × ℕ)) → weight_at t d es ≡ document_weight d (filter (λ x. x.0 == t) es)
weight_of_filter t d [] = refl
weight_of_filter t d (e ∷ es) = weight_step t d e es (weight_of_filter t d es) (e.0 == t)

rises_cons : {X : Type 0} (n : X → ℕ) (x : X) (xs : List X) → All (λ y. n x ≤ n y) xs → IsNonDecreasingBy n xs → IsNonDecreasingBy n (x ∷ xs)
rises_cons n x xs above rises zero zero d le h = omega arith
rises_cons n x xs above rises zero (suc j) d le h = above j d (omega arith)
rises_cons n x xs above rises (suc i) zero d le h = absurd (omega arith)
rises_cons n x xs above rises (suc i) (suc j) d le h = rises i j d (omega arith) (omega arith)

all_from : (n m : ℕ) (es : List (ℕ × ℕ × ℕ)) → n ≤ m → All (λ e. m ≤ e.0) es → All (λ e. n ≤ e.0) es
all_from n m es le all = λ k d h. omega (arith, all k d h)

-- entries that are of this term or of higher ones, in order
pub record Rises (term : ℕ) (es : List (ℕ × ℕ × ℕ)) : Type 0 where
  pub order : IsNonDecreasingBy (λ (e : ℕ × ℕ × ℕ). e.0) es
  pub from : All (λ (e : ℕ × ℕ × ℕ). term ≤ e.0) es

one_more : (term document x : ℕ) (es : List (ℕ × ℕ × ℕ)) → Rises term es → Rises term ((term, document, x) ∷ es)
one_more term document x es rises = record {
  order = rises_cons (λ (e : ℕ × ℕ × ℕ). e.0) (term, document, x) es rises.from rises.order;
  from = All-cons (λ (e : ℕ × ℕ × ℕ). term ≤ e.0) (term, document, x) es (omega arith) rises.from;
}

if_more : (term document x : ℕ) (es rest : List (ℕ × ℕ × ℕ)) → Rises term (es ++ rest) → (b : Bool) → Rises term (cond b ((term, document, x) ∷ es) es ++ rest)
if_more term document x es rest rises true = one_more term document x (es ++ rest) rises
if_more term document x es rest rises false = rises

term_rises : (documents : List Document) (term : ℕ) (w : List ℕ) (number : ℕ) (ds : List Document) (rest : List (ℕ × ℕ × ℕ)) → Rises term rest → Rises term (term_entries documents term w number ds ++ rest)
term_rises documents term w number [] rest rises = rises
term_rises documents term w number (d ∷ ds) rest rises =
    if_more term number (weight documents w d) (term_entries documents term w (number + 1) ds) rest (term_rises documents term w (number + 1) ds rest rises) (nat_lt 0 (weight documents w d))

pub entries_rise : (documents : List Document) (term : ℕ) (ws : List (List ℕ)) → Rises term (entries documents term ws)
entries_rise documents term [] = record { order = λ i j d le h. absurd (omega arith); from = All-nil (λ (e : ℕ × ℕ × ℕ). term ≤ e.0) }
entries_rise documents term (w ∷ ws) =
    let rest = entries_rise documents (term + 1) ws in
    term_rises documents term w 0 documents (entries documents (term + 1) ws)
    (record { order = rest.order; from = all_from term (term + 1) (entries documents (term + 1) ws) (omega arith) rest.from })
