-- What a term of a query adds, by the entries of an index.
use Rattle.std.proofs.Common.{◌≡◌, ℕ, zero, suc, ◌+◌, ◌*◌, ◌<◌, ◌≤◌, min, Bool, true, false, cond, List, [], ◌∷◌, length, refl, sym, ap, ◌∙◌, arith, Option, Some, None, get_or, nat_lt, nat_le, ◌^◌}
use Rattle.std.specs.Prelude.{slice_get, All, map, sum_by}
use Rattle.std.specs.List.{list_any, cons_option}
use Rattle.std.specs.Str.{bytes_eq}
use Rattle.std.proofs.lemmas.Option.{slice_get-get_or}
use Rattle.std.proofs.lemmas.List.Sums.{sum_by-cons}
use Rattle.std.proofs.lemmas.List.{ext_get_or, get_or-map, length-map}
use Rattle.std.proofs.lemmas.List.Elements.{All-append, All-cons, All-nil}
use Rattle.std.proofs.Math.Nat.{mul-le-mul}
use Rattle.co_corpus.specs.declared.documents.Document.{Document}
use Rattle.co_tfidf.specs.Weight.{weight, bits, highest}
use Rattle.co_tfidf.specs.Entries.{entries, term_entries}
use Rattle.co_tfidf.specs.Scores.{score_of}
use Rattle.co_tfidf.specs.EntryScores.{weight_at, weight_in, term_score, query_score}
use Rattle.co_text.specs.Terms.{terms}
use Rattle.co_tfidf.specs.Counts.{term_frequency}
use Rattle.co_tfidf.specs.Vocabulary.{is_kept, vocabulary}
use Rattle.co_tfidf.proofs.WeightAt.{weight_from, weight_of_number, weight_at-entries}
use Rattle.co_text.specs.Numbers.{number_of, numbers_of}
use Rattle.co_text.proofs.Numbered.{number_known, number_member, number_unknown}
use Rattle.co_tfidf.proofs.Numbered.{from_get, number_get}

highest_le : (n : ℕ) (p : ℕ → Bool) → highest n p ≤ n
highest_le zero p = omega arith
highest_le (suc n) p = elim (p (suc n)) as (λ b. cond b (suc n) (highest n p) ≤ suc n) [ true ↦ omega arith | false ↦ omega (arith, highest_le n p) ]

bits_le : (d f : ℕ) → bits d f ≤ 64
unfolding bits
bits_le d f = highest_le 64 (λ i. nat_le (2 ^ i * f ^ 4) (d ^ 4))

pub weight_le : (documents : List Document) (w : List ℕ) (e : Document) → weight documents w e ≤ 4032
unfolding weight
weight_le documents w e =
    let few : min (term_frequency w (terms e.text)) 63 ≤ 63 = omega arith in
    mul-le-mul {n₂ = 63} {m₂ = 64} few (bits_le _ _)

pub weight_in_le : (documents : List Document) (w : List ℕ) (o : Option Document) → weight_in documents w o ≤ 4032
weight_in_le documents w None = omega arith
weight_in_le documents w (Some e) = weight_le documents w e

-- the entries at a term's number
pub at_number : (documents : List Document) (ws : List (List ℕ)) (w : List ℕ) (i d : ℕ) → slice_get ws i ≡ Some w
    → weight_at i d (entries documents 0 ws) ≡ weight_in documents w (slice_get documents d)
at_number documents ws w i d is =
    let zero_i : 0 + i ≡ i = omega arith in
    let zero_d : 0 + d ≡ d = omega arith in
    weight_at-entries documents 0 ws i d
    ∙ sym (ap (λ t. weight_of_number documents 0 ws t d) zero_i)
    ∙ number_get documents 0 i d ws w is
    ∙ sym (ap (weight_from documents w 0 documents) zero_d)
    ∙ from_get documents w 0 d documents

pub term_score_le : (documents : List Document) (ws : List (List ℕ)) (w : List ℕ) (d : ℕ) → term_score documents ws w d ≤ 4032
term_score_le documents ws w d = elim (list_any (bytes_eq w) ws) as (λ b. cond b (weight_in documents w (slice_get documents d)) 0 ≤ 4032) [ true ↦ weight_in_le documents w _ | false ↦ omega arith ]

pub query_score_le : (documents : List Document) (ws query : List (List ℕ)) (d : ℕ) → query_score documents ws query d ≤ 4032 * length query
query_score_le documents ws [] d = omega arith
query_score_le documents ws (w ∷ query) d = omega (arith, term_score_le documents ws w d, query_score_le documents ws query d)

term_within : (documents : List Document) (t : ℕ) (w : List ℕ) (m : ℕ) (es : List Document) (n : ℕ) → m + length es ≤ n → All (λ e. e.1 < n) (term_entries documents t w m es)
term_within documents t w m [] n le = All-nil (λ e. e.1 < n)
term_within documents t w m (e ∷ es) n le =
    let rest = term_within documents t w (m + 1) es n (omega arith) in
    elim (nat_lt 0 (weight documents w e)) as (λ b. All (λ x. x.1 < n) (cond b ((t, m, weight documents w e) ∷ term_entries documents t w (m + 1) es) (term_entries documents t w (m + 1) es))) [
      | true ↦ All-cons (λ x. x.1 < n) (t, m, weight documents w e) _ (omega arith) rest
      | false ↦ rest
    ]

pub entries_within : (documents : List Document) (n : ℕ) (ws : List (List ℕ)) → All (λ e. e.1 < length documents) (entries documents n ws)
entries_within documents n [] = All-nil (λ e. e.1 < length documents)
entries_within documents n (w ∷ ws) = All-append (λ x. x.1 < length documents) _ _ (term_within documents n w 0 documents (length documents) (omega arith)) (entries_within documents (n + 1) ws)

-- the parts of a query's score add up
pub query_score-is : (most : ℕ) (documents : List Document) (query : List (List ℕ)) (i : ℕ) (e : Document) → slice_get documents i ≡ Some e
    → query_score documents (vocabulary most documents) query i ≡ score_of most documents query e
query_score-is most documents [] i e is = refl
query_score-is most documents (w ∷ query) i e is =
    rw (is, query_score-is most documents query i e is) (sym (sum_by-cons (λ u. cond (is_kept most documents u) (weight documents u e) 0) w query))

pub scores_are : (most : ℕ) (documents : List Document) (query : List (List ℕ)) (found : List ℕ) → length found ≡ length documents
    → ((d : ℕ) → get_or found d 0 ≡ query_score documents (vocabulary most documents) query d) → found ≡ map (score_of most documents query) documents
scores_are most documents query found long each = ext_get_or 0 found _ (long ∙ sym (length-map documents (score_of most documents query))) (λ i h.
    let nil : Document = record { title = []; text = [] } in
    let within : i < length documents = omega arith in
    each i ∙ query_score-is most documents query i (get_or documents i nil) (slice_get-get_or documents i nil within) ∙ sym (get_or-map (score_of most documents query) documents i nil 0 within))

-- the weights at the numbers of terms come to what the terms add
pub numbers_score : (documents : List Document) (vocabulary ws : List (List ℕ)) (f : ℕ → ℕ) (d : ℕ)
    → ((i : ℕ) (w : List ℕ) → slice_get vocabulary i ≡ Some w → f i ≡ weight_in documents w (slice_get documents d))
    → sum_by f (numbers_of vocabulary ws) ≡ query_score documents vocabulary ws d
numbers_score documents vocabulary [] f d each = refl
numbers_score documents vocabulary (w ∷ ws) f d each = at (numbers_score documents vocabulary ws f d each) (number_of vocabulary w) refl
  where
    at : sum_by f (numbers_of vocabulary ws) ≡ query_score documents vocabulary ws d → (o : Option ℕ) → number_of vocabulary w ≡ o
        → sum_by f (cons_option o (numbers_of vocabulary ws)) ≡ term_score documents vocabulary w d + query_score documents vocabulary ws d
    at rest None is = rest ∙ rw (number_unknown vocabulary w is) (omega arith)
    at rest (Some i) is =
        sum_by-cons f i (numbers_of vocabulary ws)
        ∙ rw (number_member vocabulary w i is) (omega (arith, rest, each i w (number_known vocabulary w i is)))
