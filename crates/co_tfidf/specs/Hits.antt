-- The hits of a query.
use Rattle.std.specs.Prelude.{◌≡◌, ℕ, List, [], map, slice_get, Option, Some, None}
use Rattle.co_text.specs.declared.found.Hit.{Hit}
use Rattle.co_text.specs.declared.ranks.Ranked.{Ranked}
use Rattle.co_text.specs.Ranking.{ranking, IsRanking}
use Rattle.co_corpus.specs.declared.documents.Document.{Document}
use Rattle.co_tfidf.specs.Scores.{scores}

abbrev pub title_or_none : Option Document → List ℕ
title_or_none None = []
title_or_none (Some d) = d.title

-- a ranked document with its title
abbrev pub hit_of : List Document → Ranked → Hit
hit_of documents r = record {
  document = r.document;
  score = r.score;
  title = title_or_none (slice_get documents r.document);
}

-- the hits for a query, for a vocabulary of at most `most` terms, at most so many
abbrev pub hits_of : ℕ → List Document → ℕ → List (List ℕ) → List Hit
hits_of most documents hits query =
    map (hit_of documents) (ranking hits (scores most documents query))

-- what makes a list the hits for a query: the documents of score at least 1 with their titles, by
-- score downwards and then by number, the first so many
pub record AreHits (most : ℕ) (documents : List Document) (hits : ℕ) (query : List (List ℕ))
    (found : List Hit) : Type 0 where
  pub order : List Ranked
  pub ranked : IsRanking hits (scores most documents query) order
  pub shown : found ≡ map (hit_of documents) order
