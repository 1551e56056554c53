-- Over honest exchanges the hits that are read are those of the plain answer, and each is one of the documents.
use Rattle.std.proofs.Common.{◌≡◌, ℕ, ◌<◌, refl, ap, ◌∙◌, List, length, All, Option, Result}
use Rattle.std.proofs.lemmas.List.{length-map}
use Rattle.rand_core.specs.Stream.{Stream}
use Rattle.co_link.specs.declared.messages.Target.TheVariants.{Score}
use Rattle.co_link.specs.declared.messages.Exchange.{Exchange}
use Rattle.co_noise.specs.Shapes.{Numbers}
use Rattle.co_bfv.specs.Draws.{secret_draw}
use Rattle.co_text.specs.declared.found.Found.{Found}
use Rattle.co_text.specs.declared.ranks.Ranked.{Ranked}
use Rattle.co_text.specs.Terms.{distinct}
use Rattle.co_text.specs.Numbers.{numbers_of}
use Rattle.co_text.specs.Ranking.{ranking}
use Rattle.co_corpus.specs.declared.documents.Document.{Document}
use Rattle.co_tfidf.specs.Scores.{scores, score}
use Rattle.co_tfidf.proofs.HitsLaw.{order_within}
use Rattle.co_wire.specs.Bodies.{keys_bytes, ciphers_bytes}
use Rattle.co_library.specs.declared.settings.Settings.{Settings}
use Rattle.co_library.specs.Libraries.{Parts}
use Rattle.co_rounds.specs.Scoring.{scores_read}
use Rattle.co_rounds.proofs.Rounds.{score_round}
use Rattle.co_client.specs.declared.fault.SearchFault.{SearchFault}
use Rattle.co_client.specs.Causes.{Search, ReadsHits}
use Rattle.co_client.specs.Plain.{plain_hits}
use Rattle.co_client.proofs.Fresh_queries.{scores_spelled, scores_asked}
use Rattle.co_client.proofs.Honest_rounds.{IsHonestSearch, has, has_room, few, spelled, can, round}

module _ {documents : List Document} {settings : Settings} {l : Parts} {held : Option (List ℕ)} {r : Search} {es : List Exchange} {result : Result Found SearchFault} {left : Stream}
    (h : IsHonestSearch documents settings l held r es result left) (hits : List Ranked) (read : ReadsHits r es l.shape l.terms hits) where
  scores_plain : scores_read l.shape (secret_draw l.shape.degree r.stream).0 read.replies ≡ scores settings.terms documents r.query
  scores_plain =
      score_round documents settings l h.library.built (has_room h) (secret_draw l.shape.degree r.stream).0 (can h).is_secret (can h).degree
      h.asks.asked.keys (keys_bytes h.asks.asked.keys) (spelled h) (can h).good r.query (few h) h.asks.asked.scores (ciphers_bytes h.asks.asked.scores)
      (scores_spelled l.shape (has h) (has_room h) (numbers_of l.terms (distinct r.query)) h.asks.rows h.asks.bin r.stream h.asks.asked h.asks.rest h.asks.drawn)
      (scores_asked l.shape (has h) (has_room h) (numbers_of l.terms (distinct r.query)) h.asks.rows h.asks.bin r.stream h.asks.asked h.asks.rest h.asks.drawn)
      read.scored.body (round h _ _ Score read.replies read.scored 0 (ciphers_bytes h.asks.asked.scores) refl refl)
      read.replies read.scored.spelled

  pub hits_plain : hits ≡ plain_hits documents settings r.query
  hits_plain =
      let most : l.shape.hits ≡ settings.hits = ap (λ (s : Numbers). s.hits) h.library.built.is.shape in
      read.are ∙ (λ t. ranking (most t) (scores_plain t))

  pub hits_within : All (λ (x : Ranked). x.document < length documents) hits
  hits_within = order_within settings.hits documents (scores settings.terms documents r.query) hits (length-map documents (score settings.terms documents r.query)) hits_plain
