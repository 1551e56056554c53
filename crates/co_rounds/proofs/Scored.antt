-- The scores that a client reads are those of the documents.
use Rattle.std.proofs.Common.{◌≡◌, ℕ, ◌+◌, ◌*◌, ◌/◌, ◌%◌, ◌<◌, ◌≤◌, sym, ap, subst, ◌∙◌, ⊎_elim, arith, ℤ, List, [], length, get_or, All, Some, None}
use Rattle.std.specs.Prelude.{slice_get}
use Rattle.std.specs.Int.{div_ceil}
use Rattle.std.proofs.lemmas.Bool.{cases_lt}
use Rattle.std.proofs.lemmas.Grind.{div_ceil_times}
use Rattle.std.proofs.lemmas.List.{ext_get_or, get_or-map, length-map}
use Rattle.std.proofs.lemmas.List.FromFn.{length-map-range_with_len, get_or-map-range_with_len}
use Rattle.std.proofs.lemmas.Option.{slice_get-get_or}
use Rattle.std.proofs.Math.Nat.{div-add-mod', mod-lt, mul-le-mul_right, div-mul-le_self}
use Rattle.co_math.specs.Parameters.{q}
use Rattle.co_math.specs.Coefficients.{signed_coefficients}
use Rattle.co_noise.specs.Shapes.{Numbers, HasRanges, keyword_blocks as keyword_blocks_of, document_blocks as document_blocks_of}
use Rattle.co_noise.specs.Bounds.{score_bound, HasRoom}
use Rattle.co_noise.proofs.Ranges.{ranges}
use Rattle.co_bfv.specs.Secrets.{IsSecret, IsTernary}
use Rattle.co_bfv.specs.Ciphertexts.{Ciphertext, ciphertext_degree}
use Rattle.co_bfv.specs.Totals.{ciphertext_at}
use Rattle.co_bfv.proofs.Ternary.{secret-IsTernary}
use Rattle.co_bfv.proofs.Totals.{ciphertext_total-degree}
use Rattle.co_switch.specs.Keys.{Keys, AreGoodKeys}
use Rattle.co_matvec.specs.Weights.{WeightMatrix, numbers_of, keyword_blocks, document_blocks, weight_of, score_of}
use Rattle.co_matvec.specs.Replies.{CanScore, AreKeywords, AreScoreReplies, score_sum}
use Rattle.co_matvec.proofs.Lawful.{replies_show}
use Rattle.co_corpus.specs.declared.documents.Document.{Document}
use Rattle.co_text.specs.Terms.{distinct}
use Rattle.co_text.specs.Numbers.{numbers_of as keywords_of}
use Rattle.co_text.proofs.Numbered.{distinct_once, numbers_few, numbers_within, numbers_once}
use Rattle.co_tfidf.specs.Scores.{scores, score}
use Rattle.co_tfidf.specs.EntryScores.{query_score}
use Rattle.co_tfidf.proofs.Scores.{query_score-is, numbers_score}
use Rattle.co_wire.specs.Bodies.{AreKeysFor, AreCiphers}
use Rattle.co_library.specs.declared.settings.Settings.{Settings}
use Rattle.co_library.specs.Libraries.{Parts}
use Rattle.co_library.specs.Refusals.{IsBuilt}
use Rattle.co_rounds.specs.Serving.{weights_of}
use Rattle.co_rounds.specs.Scoring.{AskScores, score_read, scores_read}
use Rattle.co_rounds.proofs.Weighing.{weights_plain, weights_small, bounds_agree}
use Rattle.co_rounds.proofs.Opened.{slot_opened}

pub sum-degree : (w : WeightMatrix) (keys : Keys) (query : List Ciphertext) (diagonal : ℕ → ℕ → List ℕ) → ciphertext_degree (score_sum w keys query diagonal) ≡ w.degree
unfolding score_sum
sum-degree w keys query diagonal = ciphertext_total-degree w.degree (keyword_blocks w) _

-- the block of a document is one of the blocks
block_within : (d documents n : ℕ) → 0 < n → d < documents → d / n < div_ceil documents n
block_within d documents n z l =
    let up = (div_ceil_times documents n z).0 in
    let low = div-mul-le_self d n in
    step (d / n) (div_ceil documents n) up low
  where
    step : (a b : ℕ) → documents ≤ b * n → a * n ≤ d → a < b
    step a b up low = ⊎_elim (λ u. u) (λ u. absurd (omega (arith, mul-le-mul_right n u))) (cases_lt a b)

module _ (documents : List Document) (settings : Settings) (l : Parts) (built : IsBuilt documents settings l) (room : HasRoom l.shape)
    (secret : List ℤ) (is_secret : IsSecret secret) (degree_is : length secret ≡ l.shape.degree)
    (keys : Keys) (keys_for : AreKeysFor l.shape keys) (good : AreGoodKeys (signed_coefficients secret) keys)
    (query : List (List ℕ)) (few : length (distinct query) ≤ 16)
    (queries replies : List Ciphertext) (ciphers : AreCiphers l.shape.degree (keyword_blocks_of l.shape) queries)
    (asks : AskScores l.shape.degree secret (keywords_of l.terms (distinct query)) queries)
    (r : AreScoreReplies (weights_of l) keys queries replies) where
  has : HasRanges l.shape
  has = ranges l.shape built.good.published.good.ranges

  keywords : List ℕ
  keywords = keywords_of l.terms (distinct query)

  can : CanScore (weights_of l) keys queries
  unfolding keyword_blocks keyword_blocks_of
  can = record {
    degree = has.degree;
    key_set = keys_for.set;
    keys_of_degree = keys_for.degree;
    blocks = ciphers.count_is;
    ciphers = ciphers.ciphers;
    query_degree = ciphers.degrees;
  }

  words : AreKeywords (weights_of l) keys queries (signed_coefficients secret) keywords
  unfolding keywords
  words = record {
    secret = subst (λ (n : ℕ). IsTernary n (signed_coefficients secret)) degree_is (secret-IsTernary secret is_secret);
    good = good.rotations;
    distinct = numbers_once l.terms (distinct query) (distinct_once query);
    known = subst (λ (m : ℕ). All (λ y. y < m) (keywords_of l.terms (distinct query))) built.good.published.count (numbers_within l.terms (distinct query));
    queries = asks;
  }

  bound_fits : 2 * score_bound (numbers_of (weights_of l)) < q
  bound_fits = subst (λ (b : ℕ). 2 * b < q) (sym (bounds_agree l)) room.score_fits

  counted : length replies ≡ div_ceil l.shape.documents l.shape.degree
  unfolding document_blocks document_blocks_of
  counted = r.count

  -- a slot shows the score by the entries
  read_as : (d : ℕ) → d < l.shape.documents → score_read l.shape.degree secret replies d ≡ score_of l.weights keywords d
  unfolding keywords
  read_as d u =
      let n = l.shape.degree in
      let z : 0 < n = omega (arith, has.degree_low) in
      let a = d / n in
      let here : a < length replies = subst (λ (m : ℕ). a < m) (sym counted) (block_within d l.shape.documents n z u) in
      let sum = r.each a here in
      let degree : ciphertext_degree (ciphertext_at replies a) ≡ n = ap (λ (c : Ciphertext). ciphertext_degree c) sum.is ∙ sum-degree (weights_of l) keys queries sum.diagonal in
      let fewer : length (keywords_of l.terms (distinct query)) ≤ 16 = omega (arith, numbers_few l.terms (distinct query)) in
      let shown = replies_show (weights_of l) keys queries replies can r (signed_coefficients secret) (keywords_of l.terms (distinct query)) words fewer (weights_small l.shape None l.weights built.good.each) a here in
      slot_opened n secret (ciphertext_at replies a) (λ p. score_of l.weights (keywords_of l.terms (distinct query)) (a * n + p)) (score_bound (numbers_of (weights_of l))) degree shown bound_fits (d % n) (mod-lt d z)
      ∙ ap (score_of l.weights (keywords_of l.terms (distinct query))) (div-add-mod' d n)

  -- and that is the plain score
  plain_as : (d : ℕ) (e : Document) → slice_get documents d ≡ Some e → score_of l.weights keywords d ≡ score settings.terms documents query e
  unfolding keywords score_of
  plain_as d e at =
      numbers_score documents l.terms (distinct query) (λ y. weight_of l.weights y d) d (λ i w number. weights_plain documents settings l built w i d number)
      ∙ ap (λ ts. query_score documents ts (distinct query) d) built.is.terms
      ∙ query_score-is settings.terms documents (distinct query) d e at

  pub scores_plain : scores_read l.shape secret replies ≡ scores settings.terms documents query
  scores_plain =
      let count : l.shape.documents ≡ length documents = ap (λ (s : Numbers). s.documents) built.is.shape in
      let nil : Document = record { title = []; text = [] } in
      let len = length-map-range_with_len (score_read l.shape.degree secret replies) 0 l.shape.documents in
      ext_get_or 0 (scores_read l.shape secret replies) (scores settings.terms documents query) (len ∙ count ∙ sym (length-map documents (score settings.terms documents query)))
      (λ d u.
      let low : d < l.shape.documents = subst (λ (m : ℕ). d < m) len u in
      let inside : d < length documents = subst (λ (m : ℕ). d < m) count low in
      get_or-map-range_with_len (score_read l.shape.degree secret replies) 0 l.shape.documents d d 0 low (omega arith)
      ∙ read_as d low ∙ plain_as d (get_or documents d nil) (slice_get-get_or documents d nil inside)
      ∙ sym (get_or-map (score settings.terms documents query) documents d nil 0 inside))
