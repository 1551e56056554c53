-- One occurrence more in the postings of a term, one term more of a document, one document more.
use Rattle.std.proofs.Common.{◌≡◌, ℕ, ◌+◌, ◌<◌, ◌≤◌, ◌==◌, min, Bool, true, false, cond, ◌&&◌, List, [], ◌∷◌, ◌++◌, length, get_or, take, refl, sym, ap, ◌∙◌, arith, nat_lt, Option, Some, append_assoc}
use Rattle.std.specs.Prelude.{All}
use Rattle.std.specs.Option.{unwrap_or}
use Rattle.std.specs.Str.{bytes_eq}
use Rattle.std.proofs.lemmas.List.{append-nil, take_more, length-take}
use Rattle.std.proofs.lemmas.List.Elements.{All-append, All-head, All-tail, All-cons, All-nil}
use Rattle.std.proofs.lemmas.List.Sums.{sum_by-cons}
use Rattle.std.proofs.lemmas.Bool.{eqb-true, ltb-false}
use borrow.Author.Tests.{eq-eqb}
use Rattle.co_text.specs.Terms.{terms, terms_of, folded, is_short}
use Rattle.co_corpus.specs.declared.documents.Document.{Document}
use Rattle.co_tfidf.specs.declared.postings.Posting.{Posting}
use Rattle.co_tfidf.specs.Counts.{term_frequency}
use Rattle.co_tfidf.specs.Postings.{counted, posting, postings, listed, last_posting}

pub last_posting-append : (ps : List Posting) (p : Posting) → last_posting (ps ++ p ∷ []) ≡ p
last_posting-append [] p = refl
last_posting-append (x ∷ []) p = refl
last_posting-append (x ∷ y ∷ ys) p = last_posting-append (y ∷ ys) p

-- the last posting is of this document
pub counted_same : (ps : List Posting) (p : Posting) (n : ℕ) → (p.document == n) ≡ true
    → counted (ps ++ p ∷ []) n ≡ ps ++ record { document = n; count = min (p.count + 1) 63 } ∷ []
counted_same [] p n is = rw is refl
counted_same (x ∷ []) p n is = rw is refl
counted_same (x ∷ y ∷ ys) p n is = ap (λ l. x ∷ l) (counted_same (y ∷ ys) p n is)

-- it is of another
pub counted_other : (ps : List Posting) (p : Posting) (n : ℕ) → (p.document == n) ≡ false
    → counted (ps ++ p ∷ []) n ≡ (ps ++ p ∷ []) ++ record { document = n; count = 1 } ∷ []
counted_other [] p n is = rw is refl
counted_other (x ∷ []) p n is = rw is refl
counted_other (x ∷ y ∷ ys) p n is = ap (λ l. x ∷ l) (counted_other (y ∷ ys) p n is)

apart_at : (a b : ℕ) → a < b → (c : Bool) → (a == b) ≡ c → c ≡ false
apart_at a b less true is = absurd (omega (arith, eqb-true a b is))
apart_at a b less false is = refl

apart : (a b : ℕ) → a < b → (a == b) ≡ false
apart a b less = apart_at a b less (a == b) refl

differs_at : (a b : ℕ) → (a ≡ b → ⊥) → (c : Bool) → (a == b) ≡ c → c ≡ false
differs_at a b differs true is = absurd (differs (eqb-true a b is))
differs_at a b differs false is = refl

pub apart_test : (a b : ℕ) → (a ≡ b → ⊥) → (a == b) ≡ false
apart_test a b differs = differs_at a b differs (a == b) refl

-- all postings are of lower documents
pub counted_below : (ps : List Posting) (n : ℕ) → All (λ p. p.document < n) ps → counted ps n ≡ ps ++ record { document = n; count = 1 } ∷ []
counted_below [] n all = refl
counted_below (p ∷ []) n all = rw (apart p.document n (All-head (λ q. q.document < n) p [] all)) refl
counted_below (p ∷ q ∷ ps) n all = ap (λ l. p ∷ l) (counted_below (q ∷ ps) n (All-tail (λ q. q.document < n) p (q ∷ ps) all))

pub listed_push : (ps : List Posting) (p : Posting) → listed (ps ++ p ∷ []) ≡ Some (ps ++ p ∷ [])
listed_push [] p = refl
listed_push (x ∷ xs) p = refl

step_at : (old : List Posting) (n k : ℕ) → All (λ p. p.document < n) old → (b : Bool) → nat_lt 0 k ≡ b
    → Some (counted (old ++ cond b (record { document = n; count = min k 63 } ∷ []) []) n) ≡ Some (old ++ record { document = n; count = min (k + 1) 63 } ∷ [])
step_at old n k below true some =
    let capped : min (min k 63 + 1) 63 ≡ min (k + 1) 63 = omega arith in
    ap Some (counted_same old (record { document = n; count = min k 63 }) n (eq-eqb n n refl) ∙ ap (λ c. old ++ record { document = n; count = c } ∷ []) capped)
step_at old n k below false none =
    let nothing : k ≡ 0 = omega (arith, ltb-false 0 k none) in
    let one : 1 ≡ min (k + 1) 63 = omega arith in
    ap Some (rw (append-nil old) (counted_below old n below) ∙ ap (λ c. old ++ record { document = n; count = c } ∷ []) one)

some_at : (n k : ℕ) (b : Bool) → nat_lt 0 (k + 1) ≡ b
    → cond {A = List Posting} b (record { document = n; count = min (k + 1) 63 } ∷ []) [] ≡ record { document = n; count = min (k + 1) 63 } ∷ []
some_at n k true some = refl
some_at n k false none = absurd (omega (arith, ltb-false 0 (k + 1) none))

some_more : (n k : ℕ) → posting n (k + 1) ≡ record { document = n; count = min (k + 1) 63 } ∷ []
some_more n k = some_at n k (nat_lt 0 (k + 1)) refl

-- one occurrence more of a term that the document had k term_frequency, after postings of lower documents
pub one_more : (old : List Posting) (n k : ℕ) → All (λ p. p.document < n) old → Some (counted (old ++ posting n k) n) ≡ listed (old ++ posting n (k + 1))
one_more old n k below =
    step_at old n k below (nat_lt 0 k) refl
    ∙ sym (listed_push old (record { document = n; count = min (k + 1) 63 }))
    ∙ ap (λ l. listed (old ++ l)) (sym (some_more n k))

pub unwrap_listed : (ps : List Posting) → unwrap_or (listed ps) [] ≡ ps
unwrap_listed [] = refl
unwrap_listed (p ∷ ps) = refl

-- how often a term was counted in a document so far, and how often it is still to come
pub record Counted (w : List ℕ) (old : List Posting) (n total left : ℕ) (now : Option (List Posting)) : Type 0 where
  pub so_far : ℕ
  pub all : so_far + left ≡ total
  pub is : now ≡ listed (old ++ posting n so_far)

left_is : (w t : List ℕ) (ts : List (List ℕ)) (b : Bool) → term_frequency w (cond b (t ∷ ts) ts) ≡ cond (b && bytes_eq w t) 1 0 + term_frequency w ts
left_is w t ts true = sum_by-cons (λ u. cond (bytes_eq w u) 1 0) t ts
left_is w t ts false = omega arith

counted_at : (w : List ℕ) (old : List Posting) (n total rest k : ℕ) (now new : Option (List Posting)) → All (λ p. p.document < n) old
    → (c : Bool) → k + (cond c 1 0 + rest) ≡ total → now ≡ listed (old ++ posting n k) → new ≡ cond c (Some (counted (unwrap_or now []) n)) now
    → Counted w old n total rest new
counted_at w old n total rest k now new below true all is more = record {
  so_far = k + 1;
  all = omega (arith, all);
  is =
      let before : unwrap_or now [] ≡ old ++ posting n k = ap (λ o. unwrap_or o []) is ∙ unwrap_listed (old ++ posting n k) in
      more ∙ ap (λ ps. Some (counted ps n)) before ∙ one_more old n k below;
}
counted_at w old n total rest k now new below false all is more = record { so_far = k; all = omega (arith, all); is = more ∙ is }

-- one word more of a document is counted
pub word_step : (w word : List ℕ) (old : List Posting) (n total : ℕ) (ws : List (List ℕ)) → All (λ p. p.document < n) old
    → (now new : Option (List Posting)) → Counted w old n total (term_frequency w (terms_of (word ∷ ws))) now
    → new ≡ cond (is_short (folded word) && bytes_eq w (folded word)) (Some (counted (unwrap_or now []) n)) now
    → Counted w old n total (term_frequency w (terms_of ws)) new
word_step w word old n total ws below now new c more =
    counted_at w old n total (term_frequency w (terms_of ws)) c.so_far now new below (is_short (folded word) && bytes_eq w (folded word))
    (ap (λ l. c.so_far + l) (sym (left_is w (folded word) (terms_of ws) (is_short (folded word)))) ∙ c.all) c.is more

-- the postings of one document more
postings_push : (w : List ℕ) (m : ℕ) (ds : List Document) (d : Document) → postings w m (ds ++ d ∷ []) ≡ postings w m ds ++ posting (m + length ds) (term_frequency w (terms d.text))
postings_push w m [] d =
    let same : m ≡ m + 0 = omega arith in
    append-nil _ ∙ ap (λ k. posting k (term_frequency w (terms d.text))) same
postings_push w m (e ∷ es) d =
    let same : (m + 1) + length es ≡ m + length (e ∷ es) = omega arith in
    ap (λ l. posting m (term_frequency w (terms e.text)) ++ l) (postings_push w (m + 1) es d ∙ ap (λ k. postings w (m + 1) es ++ posting k (term_frequency w (terms d.text))) same)
    ∙ sym (append_assoc (posting m (term_frequency w (terms e.text))) (postings w (m + 1) es) _)

pub document_step : (w : List ℕ) (ds : List Document) (i : ℕ) (d : Document) → i < length ds → d ≡ get_or ds i d
    → postings w 0 (take i ds) ++ posting i (term_frequency w (terms d.text)) ≡ postings w 0 (take (i + 1) ds)
document_step w ds i d within item =
    let taken : take (i + 1) ds ≡ take i ds ++ d ∷ [] = take_more ds i d within ∙ ap (λ e. take i ds ++ e ∷ []) (sym item) in
    let long : i ≡ 0 + length (take i ds) = omega (arith, length-take i ds) in
    ap (λ k. postings w 0 (take i ds) ++ posting k (term_frequency w (terms d.text))) long ∙ sym (postings_push w 0 (take i ds) d) ∙ ap (postings w 0) (sym taken)

posting_below : (document n k : ℕ) → document < n → (b : Bool) → All (λ p. p.document < n) (cond {A = List Posting} b (record { document = document; count = min k 63 } ∷ []) [])
posting_below document n k less true = All-cons (λ p. p.document < n) (record { document = document; count = min k 63 }) [] less (All-nil (λ p. p.document < n))
posting_below document n k less false = All-nil (λ p. p.document < n)

pub postings_below : (w : List ℕ) (m : ℕ) (ds : List Document) (n : ℕ) → m + length ds ≤ n → All (λ p. p.document < n) (postings w m ds)
postings_below w m [] n le = All-nil (λ p. p.document < n)
postings_below w m (d ∷ ds) n le =
    All-append (λ p. p.document < n) _ _ (posting_below m n (term_frequency w (terms d.text)) (omega arith) (nat_lt 0 (term_frequency w (terms d.text)))) (postings_below w (m + 1) ds n (omega arith))
