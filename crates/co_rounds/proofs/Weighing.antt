-- The weight of a term in a document, by the entries of a library.
use Rattle.std.proofs.Common.{◌≡◌, ℕ, ◌+◌, ◌<◌, ◌≤◌, ◌⊎◌, inl, inr, ⊎_elim, Bool, true, false, cond, eqb, ◌&&◌, ◌||◌, List, [], ◌∷◌, Option, Some, None, refl, ap, subst, ◌∙◌, arith, All}
use Rattle.std.specs.Prelude.{nat_lt, slice_get}
use Rattle.std.proofs.lemmas.Bool.{eqb-true}
use Rattle.std.proofs.lemmas.Bool.Decides.{nat_tests}
use Rattle.std.proofs.lemmas.List.Elements.{All-cons}
use Rattle.co_noise.specs.Shapes.{Numbers, keyword_blocks}
use Rattle.co_noise.specs.Bounds.{score_bound}
use Rattle.co_corpus.specs.declared.documents.Document.{Document}
use Rattle.co_tfidf.specs.EntryScores.{weight_at, weight_in}
use Rattle.co_tfidf.specs.Vocabulary.{vocabulary}
use Rattle.co_tfidf.proofs.Scores.{at_number}
use Rattle.co_wire.specs.Reading.{IsChain}
use Rattle.co_library.specs.Libraries.{Entry, IsEntry, Parts, IsLibrary}
use Rattle.co_library.specs.Refusals.{IsBuilt}
use Rattle.co_library.specs.declared.settings.Settings.{Settings}
use Rattle.co_library.proofs.Ascending.{entries_within, entries_rise}
use Rattle.co_matvec.specs.Weights.{numbers_of, AreEntries, weight_of}
use Rattle.co_rounds.specs.Serving.{weights_of}

-- the entry stands at the pair or behind it
Reaches : Entry → ℕ → ℕ → Type 0
Reaches e t d = (t < e.0) ⊎ ((e.0 ≡ t) × (d ≤ e.1))

later_is : (a b c d : ℕ) → (nat_lt a c || (eqb a c && nat_lt b d)) ≡ true → (a < c) ⊎ ((a ≡ c) × (b < d))
later_is a b c d h = step (nat_lt a c) refl (eqb a c) refl (nat_lt b d) refl h
  where
    step : (x : Bool) → nat_lt a c ≡ x → (y : Bool) → eqb a c ≡ y → (z : Bool) → nat_lt b d ≡ z → (x || (y && z)) ≡ true → (a < c) ⊎ ((a ≡ c) × (b < d))
    step true e y f z g h = inl (grind (arith, nat_tests))
    step false e true f true g h = inr (eqb-true a c f, grind (arith, nat_tests))
    step false e true f false g h = absurd cc
    step false e false f z g h = absurd cc

skipped : (a b t d x r : ℕ) → ((t < a) ⊎ ((a ≡ t) × (d < b))) → cond (eqb a t && eqb b d) x 0 + r ≡ r
skipped a b t d x r h = step (eqb a t) refl (eqb b d) refl
  where
    step : (p : Bool) → eqb a t ≡ p → (q : Bool) → eqb b d ≡ q → cond (p && q) x 0 + r ≡ r
    step true e true f = let m = eqb-true a t e in let n = eqb-true b d f in absurd (⊎_elim (λ u. omega arith) (λ u. let k = u.1 in omega arith) h)
    step true e false f = omega arith
    step false e q f = omega arith

none_behind : (s : Numbers) (t d : ℕ) (before : Entry) (es : List Entry) → Reaches before t d → IsChain (IsEntry s) (Some before) es → weight_at t d es ≡ 0
unfolding Reaches
none_behind s t d before [] h chain = refl
none_behind s t d before (e ∷ es) h chain =
    let later = later_is before.0 before.1 e.0 e.1 chain.0.later in
    let strict : (t < e.0) ⊎ ((e.0 ≡ t) × (d < e.1)) = ⊎_elim
    (λ u. ⊎_elim (λ v. inl (omega arith)) (λ v. let k = v.0 in inl (omega arith)) later)
    (λ u. let k = u.0 in let l = u.1 in ⊎_elim (λ v. inl (omega arith)) (λ v. let m = v.0 in let n = v.1 in inr (omega arith, omega arith)) later)
    h in
    let reaches : Reaches e t d = ⊎_elim (λ u. inl u) (λ u. let k = u.1 in inr (u.0, omega arith)) strict in
    skipped e.0 e.1 t d e.2 (weight_at t d es) strict ∙ none_behind s t d e es reaches chain.1

-- in ascending entries the first of a term and a document is the only one
weight_of-is : (s : Numbers) (before : Option Entry) (es : List Entry) (t d : ℕ) → IsChain (IsEntry s) before es → weight_of es t d ≡ weight_at t d es
unfolding Reaches
weight_of-is s before [] t d chain = refl
weight_of-is s before (e ∷ es) t d chain = step (weight_of-is s (Some e) es t d chain.1) (eqb e.0 t) refl (eqb e.1 d) refl
  where
    step : weight_of es t d ≡ weight_at t d es → (p : Bool) → eqb e.0 t ≡ p → (q : Bool) → eqb e.1 d ≡ q → cond (p && q) e.2 (weight_of es t d) ≡ cond (p && q) e.2 0 + weight_at t d es
    step rest true a true b =
        let m = eqb-true e.0 t a in
        let n = eqb-true e.1 d b in
        let none = none_behind s t d e es (inr (m, omega arith)) chain.1 in
        omega (arith, none)
    step rest true a false b = omega (arith, rest)
    step rest false a q b = omega (arith, rest)

-- each weight is at most 4032
pub weights_small : (s : Numbers) (before : Option Entry) (es : List Entry) → IsChain (IsEntry s) before es → All (λ e. e.2 ≤ 4032) es
weights_small s before [] chain = λ i d l. absurd (omega arith)
weights_small s before (e ∷ es) chain = All-cons (λ x. x.2 ≤ 4032) e es chain.0.few (weights_small s (Some e) es chain.1)

-- ---- the matrix of a library

pub are_entries : (l : Parts) → IsLibrary l → AreEntries l.shape.documents l.shape.terms l.weights
are_entries l h = record { in_range = entries_within l h; ascending = entries_rise l h }

pub weights_plain : (documents : List Document) (settings : Settings) (l : Parts) → IsBuilt documents settings l → (term : List ℕ) (number document : ℕ) → slice_get l.terms number ≡ Some term
    → weight_of l.weights number document ≡ weight_in documents term (slice_get documents document)
weights_plain documents settings l built term number document at =
    weight_of-is l.shape None l.weights number document built.good.each ∙ ap (λ es. weight_at number document es) built.is.weights
    ∙ at_number documents (vocabulary settings.terms documents) term number document (subst (λ (ts : List (List ℕ)). slice_get ts number ≡ Some term) built.is.terms at)

pub bounds_agree : (l : Parts) → score_bound (numbers_of (weights_of l)) ≡ score_bound l.shape
unfolding score_bound keyword_blocks
bounds_agree l = refl
