-- The hits are the one list that their law describes.
use Rattle.std.proofs.Common.{◌≡◌, ℕ, ◌<◌, List, length, refl, sym, ap, ◌∙◌, subst}
use Rattle.std.specs.Prelude.{All, map}
use Rattle.std.proofs.lemmas.Option.{slice_get_within}
use Rattle.std.proofs.lemmas.List.Elements.{All-weaker, All-map}
use Rattle.co_text.specs.declared.found.Hit.{Hit}
use Rattle.co_text.specs.declared.ranks.Ranked.{Ranked}
use Rattle.co_text.specs.Ranking.{ranking, IsScored}
use Rattle.co_text.proofs.Rankings.{is_ranking, one_ranking}
use Rattle.co_corpus.specs.declared.documents.Document.{Document}
use Rattle.co_tfidf.specs.Scores.{scores}
use Rattle.co_tfidf.specs.Hits.{hit_of, hits_of, AreHits}

pub are_hits : (most : ℕ) (documents : List Document) (hits : ℕ) (query : List (List ℕ)) → AreHits most documents hits query (hits_of most documents hits query)
are_hits most documents hits query = record { order = ranking hits (scores most documents query); ranked = is_ranking hits (scores most documents query); shown = refl }

pub only_hits : (most : ℕ) (documents : List Document) (hits : ℕ) (query : List (List ℕ)) (found : List Hit) → AreHits most documents hits query found → found ≡ hits_of most documents hits query
only_hits most documents hits query found are =
    are.shown ∙ ap (map (hit_of documents)) (one_ranking hits (scores most documents query) are.order (ranking hits (scores most documents query)) are.ranked (is_ranking hits (scores most documents query)))

-- a ranked document is one of the documents
ranked_within : (hits : ℕ) (documents : List Document) (found : List ℕ) → length found ≡ length documents → All (λ (r : Ranked). r.document < length documents) (ranking hits found)
ranked_within hits documents found long =
    All-weaker (IsScored found) (λ (r : Ranked). r.document < length documents)
    (λ r is. subst (λ n. r.document < n) long (slice_get_within found r.document r.score is.score)) (ranking hits found) (is_ranking hits found).scored

pub order_within : (hits : ℕ) (documents : List Document) (found : List ℕ) (order : List Ranked) → length found ≡ length documents → order ≡ ranking hits found
    → All (λ (r : Ranked). r.document < length documents) order
order_within hits documents found order long is = subst (λ (rs : List Ranked). All (λ (r : Ranked). r.document < length documents) rs) (sym is) (ranked_within hits documents found long)

pub hits_within : (documents : List Document) (order : List Ranked) (hits : List Hit) → All (λ (r : Ranked). r.document < length documents) order → hits ≡ map (hit_of documents) order
    → All (λ (h : Hit). h.document < length documents) hits
hits_within documents order hits within is =
    subst (λ (hs : List Hit). All (λ (h : Hit). h.document < length documents) hs) (sym is) (All-map (λ (h : Hit). h.document < length documents) (hit_of documents) order within)
