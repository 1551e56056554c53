-- The term with a number, and the document with a number.
use Rattle.std.proofs.Common.{◌≡◌, ℕ, zero, suc, ◌+◌, ◌<◌, Bool, true, false, ◌==◌, List, [], ◌∷◌, refl, ap, ◌∙◌, arith, Some}
use Rattle.std.specs.Prelude.{slice_get}
use borrow.Author.Tests.{eq-eqb, eqb-true}
use Rattle.co_corpus.specs.declared.documents.Document.{Document}
use Rattle.co_tfidf.specs.EntryScores.{weight_in}
use Rattle.co_tfidf.proofs.WeightAt.{weight_from, weight_of_number}

differs_test : (a b : ℕ) → (a ≡ b → ⊥) → (c : Bool) → (a == b) ≡ c → c ≡ false
differs_test a b apart true is = absurd (apart (eqb-true a b is))
differs_test a b apart false is = refl

apart_test : (a b : ℕ) → (a ≡ b → ⊥) → (a == b) ≡ false
apart_test a b apart = differs_test a b apart (a == b) refl

from_below : (documents : List Document) (w : List ℕ) (m d : ℕ) (es : List Document) → d < m → weight_from documents w m es d ≡ 0
from_below documents w m d [] below = refl
from_below documents w m d (e ∷ es) below =
    rw (apart_test m d (λ same. omega arith)) (omega (arith, from_below documents w (m + 1) d es (omega arith)))

pub from_get : (documents : List Document) (w : List ℕ) (m i : ℕ) (es : List Document) → weight_from documents w m es (m + i) ≡ weight_in documents w (slice_get es i)
from_get documents w m i [] = refl
from_get documents w m zero (e ∷ es) =
    rw (eq-eqb m (m + 0) (omega arith)) (omega (arith, from_below documents w (m + 1) (m + 0) es (omega arith)))
from_get documents w m (suc i) (e ∷ es) =
    let next : m + suc i ≡ (m + 1) + i = omega arith in
    rw (apart_test m (m + suc i) (λ same. omega arith)) (omega (arith, ap (weight_from documents w (m + 1) es) next ∙ from_get documents w (m + 1) i es))

number_below : (documents : List Document) (n t d : ℕ) (ws : List (List ℕ)) → t < n → weight_of_number documents n ws t d ≡ 0
number_below documents n t d [] below = refl
number_below documents n t d (w ∷ ws) below =
    rw (apart_test n t (λ same. omega arith)) (omega (arith, number_below documents (n + 1) t d ws (omega arith)))

pub number_get : (documents : List Document) (n i d : ℕ) (ws : List (List ℕ)) (w : List ℕ) → slice_get ws i ≡ Some w → weight_of_number documents n ws (n + i) d ≡ weight_from documents w 0 documents d
number_get documents n i d [] w is = absurd cc
number_get documents n zero d (v ∷ ws) w is =
    let same : v ≡ w = cc in
    rw (eq-eqb n (n + 0) (omega arith)) (omega (arith, number_below documents (n + 1) (n + 0) d ws (omega arith), ap (λ u. weight_from documents u 0 documents d) same))
number_get documents n (suc i) d (v ∷ ws) w is =
    let next : n + suc i ≡ (n + 1) + i = omega arith in
    rw (apart_test n (n + suc i) (λ same. omega arith)) (omega (arith, ap (λ t. weight_of_number documents (n + 1) ws t d) next ∙ number_get documents (n + 1) i d ws w is))
