-- Over honest exchanges each ciphertext that is decrypted means its message, with twice its noise below q.
use Rattle.std.proofs.Common.{◌≡◌, ℕ, ◌+◌, ◌*◌, ◌-◌, ◌/◌, ◌%◌, ◌<◌, ◌≤◌, refl, sym, ap, subst, ◌∙◌, ⊎_elim, arith, Bool, true, false, cond, eqb, ℤ, List, [], ◌∷◌, length, get_or, drop, All, Option, Some, None, Result, Ok, zero, suc, mod-lt, div-add-mod', mul-le-mul_right}
use Rattle.std.specs.Prelude.{slice_get, slice_index, slice_index_or}
use Rattle.std.specs.List.{Contains}
use Rattle.std.proofs.lemmas.Bool.{cases_lt}
use Rattle.std.proofs.lemmas.Option.{slice_get-get_or}
use Rattle.std.proofs.lemmas.List.{get_or_past, length-map, get_or-map, get_or-take, get_or-drop}
use Rattle.std.proofs.lemmas.List.Elements.{All-from_get_or}
use Rattle.std.proofs.lemmas.List.FromFn.{length-map-range_with_len, get_or-map-range_with_len}
use Rattle.rand_core.specs.Stream.{Stream}
use Rattle.co_link.specs.declared.messages.Target.TheVariants.{Score, Meta, Document as ForDocument}
use Rattle.co_link.specs.declared.messages.Exchange.{Exchange}
use Rattle.co_link.specs.Exchanges.{exchange_of}
use Rattle.co_math.specs.Parameters.{q, plain_modulus}
use Rattle.co_math.specs.Coefficients.{coefficients, signed_coefficients, AreBelow}
use Rattle.co_math.specs.Logarithms.{log2_up}
use Rattle.co_noise.specs.Shapes.{Numbers, levels, keyword_blocks as keyword_blocks_of, document_blocks}
use Rattle.co_noise.specs.Bounds.{score_bound, retrieve_bound, test_of}
use Rattle.co_bfv.specs.Secrets.{IsTernary}
use Rattle.co_bfv.specs.Ciphertexts.{Ciphertext, ciphertext_degree, MeansWithin}
use Rattle.co_bfv.specs.Encryptions.{decrypted}
use Rattle.co_bfv.specs.Draws.{secret_draw}
use Rattle.co_bfv.specs.Totals.{no_ciphertext, ciphertext_at}
use Rattle.co_bfv.proofs.Encrypted.{decrypted_are}
use Rattle.co_bfv.proofs.Ternary.{secret-IsTernary}
use Rattle.co_switch.specs.Keys.{Keys}
use Rattle.co_matvec.specs.Weights.{numbers_of, keyword_blocks}
use Rattle.co_matvec.specs.Replies.{CanScore, AreKeywords, AreScoreReplies}
use Rattle.co_matvec.proofs.Lawful.{replies_show}
use Rattle.co_pir.specs.Tables.{Table, IsTable, piece, payload, row_bytes}
use Rattle.co_pir.specs.Expansions.{expanded}
use Rattle.co_pir.specs.Replies.{retrieved}
use Rattle.co_pir.proofs.Replied.{length-payload}
use Rattle.co_pir.proofs.Gathering.{length-table_reply, table_reply-degrees}
use Rattle.co_bucket.specs.Lists.{bucket_count, candidates_of}
use Rattle.co_bucket.specs.Bytes.{record_chunks}
use Rattle.co_bucket.specs.Placement.{IsPlacement}
use Rattle.co_text.specs.declared.found.Found.{Found}
use Rattle.co_text.specs.declared.ranks.Ranked.{Ranked}
use Rattle.co_text.specs.Terms.{distinct}
use Rattle.co_text.specs.Numbers.{numbers_of as keywords_of}
use Rattle.co_text.proofs.Numbered.{distinct_once, numbers_few, numbers_within, numbers_once}
use Rattle.co_corpus.specs.declared.documents.Document.{Document}
use Rattle.co_pack.specs.declared.packing.Place.{Place}
use Rattle.co_pack.specs.declared.records.Record.{Record}
use Rattle.co_wire.specs.Bodies.{keys_bytes, ciphers_bytes}
use Rattle.co_wire.proofs.Formats.{IsBytes, IsBytes-take, IsBytes-drop}
use Rattle.co_wire.proofs.One_value.{one-list}
use Rattle.co_library.specs.declared.settings.Settings.{Settings}
use Rattle.co_library.specs.Libraries.{Parts}
use Rattle.co_rounds.specs.Serving.{weights_of, gathered, bucket_table, bin_table}
use Rattle.co_rounds.specs.Answers.{IsDone, IsScored, IsGathered, IsFetched, reply_with}
use Rattle.co_rounds.specs.Honest.{IsHonest, AreHonest}
use Rattle.co_rounds.specs.Plans.{FollowsPlan}
use Rattle.co_rounds.specs.Placing.{choices_of, no_hit, document_at, row_asked}
use Rattle.co_rounds.specs.Recording.{IsLibraryFor, CanBeOpened, AsksFor, ShowsDocument}
use Rattle.co_rounds.proofs.Opened.{reduced_own}
use Rattle.co_rounds.proofs.Rounds.{honest_done, held_are, scores-ciphers, gathered-ciphers, retrieved-ciphers}
use Rattle.co_rounds.proofs.Recorded.{shows_document}
use Rattle.co_rounds.proofs.Retrievable.{is-bucket_table, is-bin_table, gathered-at, table_means}
use Rattle.co_rounds.proofs.Weighing.{bounds_agree, weights_small}
use Rattle.co_client.specs.declared.fault.SearchFault.{SearchFault}
use Rattle.co_client.specs.Causes.{Search, Publishes, Answered, ReadsHits, ReadsRecords, Asks}
use Rattle.co_client.specs.Going.{GoesOn}
use Rattle.co_client.specs.Records.{bin_asked}
use Rattle.co_client.specs.Sure.{IsSure, AreSure}
use Rattle.co_client.proofs.Fresh_queries.{scores_spelled, scores_asked, records_asked, document_spelled, document_asked}
use Rattle.co_client.proofs.Honest_rounds.{IsHonestSearch, has, has_room, few, spelled, can, made_within, round}
use Rattle.co_client.proofs.Plain_hits.{hits_within}
use Rattle.co_client.proofs.Plain_records.{AreRecordsOf, StandsAt, record_at, rows_are, rows_long, queries_spelled, records_plain, nil}
use Rattle.co_client.proofs.Plain_text.{bin_within}
use Rattle.co_client.proofs.Plainly.{published_same}

-- ---- one ciphertext

sure_by : (n : ℕ) (secret : List ℤ) (c : Ciphertext) (message : List ℕ) (b : ℕ) → ciphertext_degree c ≡ n → length message ≡ n → AreBelow plain_modulus message
    → MeansWithin (signed_coefficients secret) c (coefficients message) b → 2 * b < q → IsSure secret c
sure_by n secret c message b degree long small means room =
    let same : decrypted secret c ≡ message = reduced_own (ciphertext_degree c) message (decrypted secret c) (long ∙ sym degree) small (decrypted_are secret c (coefficients message) b means room) in
    record { bound = b; means = subst (λ (xs : List ℕ). MeansWithin (signed_coefficients secret) c (coefficients xs) b) (sym same) means; below = room }

-- ---- replies of a retrieval

all_bytes : (bytes : List ℕ) → AreBelow 256 bytes → IsBytes bytes
all_bytes bytes h i = ⊎_elim (λ u. h i u) (λ u. subst (λ (x : ℕ). x < 256) (sym (get_or_past bytes i 0 u)) (omega arith)) (cases_lt i (length bytes))

payload-below : (n : ℕ) (bytes : List ℕ) → IsBytes bytes → AreBelow plain_modulus (payload n bytes)
unfolding payload
payload-below n bytes h k u =
    let f = λ (j : ℕ). 256 * get_or bytes (2 * j) 0 + get_or bytes (2 * j + 1) 0 in
    let low : k < n = omega (arith, u, length-map-range_with_len f 0 n) in
    subst (λ (x : ℕ). x < plain_modulus) (sym (get_or-map-range_with_len f 0 n k k 0 low (omega arith))) (omega (arith, h (2 * k), h (2 * k + 1)))

table_sure : (l : Parts) (secret : List ℤ) (keys : Keys) → CanBeOpened l secret keys → (t : Table) (query : Ciphertext) (row : ℕ) → IsTable t → t.degree ≡ l.shape.degree → log2_up t.rows ≤ length keys.expansions
    → 2 * retrieve_bound t.degree t.rows < q → AsksFor l.shape.degree secret query t.rows row → All (IsSure secret) (retrieved t keys query)
table_sure l secret keys h t query row table degree enough fits asks =
    let shown = table_means l secret keys h t query row table degree enough asks in
    let bytes : (c : ℕ) → IsBytes (piece (2 * t.degree) c (row_bytes t row)) =
    λ c. IsBytes-take (2 * t.degree) (drop (c * (2 * t.degree)) (row_bytes t row)) (IsBytes-drop (c * (2 * t.degree)) (row_bytes t row) (all_bytes (row_bytes t row) shown.below)) in
    All-from_get_or (IsSure secret) (retrieved t keys query) no_ciphertext
    (λ c u.
    sure_by t.degree secret (ciphertext_at (retrieved t keys query) c) (payload t.degree (piece (2 * t.degree) c (row_bytes t row))) (retrieve_bound t.degree t.rows)
    (table_reply-degrees t (expanded keys query (log2_up t.rows)) (retrieved t keys query) refl c no_ciphertext u)
    (length-payload t.degree (piece (2 * t.degree) c (row_bytes t row))) (payload-below t.degree (piece (2 * t.degree) c (row_bytes t row)) (bytes c)) (shown.means c u) fits)

-- ---- over honest exchanges

module _ {documents : List Document} {settings : Settings} {l : Parts} {held : Option (List ℕ)} {r : Search} {es : List Exchange} {result : Result Found SearchFault} {left : Stream}
    (h : IsHonestSearch documents settings l held r es result left) where
  abbrev secret : List ℤ
  secret = (secret_draw l.shape.degree r.stream).0

  abbrev keys : Keys
  keys = h.asks.asked.keys

  rows_keys : log2_up l.shape.rows ≤ length keys.expansions
  unfolding levels
  rows_keys = omega (arith, (can h).keys_for.level_count)

  bins_keys : log2_up l.shape.bins ≤ length keys.expansions
  unfolding levels
  bins_keys = omega (arith, (can h).keys_for.level_count)

  -- ---- scores

  module _ (replies : List Ciphertext) (a : Answered es l.shape.degree (document_blocks l.shape) Score replies) where
    abbrev queries : List Ciphertext
    queries = h.asks.asked.scores

    scored : AreScoreReplies (weights_of l) keys queries replies
    scored =
        let honest : IsHonest l (Some (keys_bytes keys)) (exchange_of (record { target = Score; body = ciphers_bytes queries }) (reply_with 200 a.body)) = round h _ _ Score replies a 0 (ciphers_bytes queries) refl refl in
        let done : IsScored l keys (ciphers_bytes queries) a.body =
        subst (λ (o : Option Keys). IsDone l o Score (ciphers_bytes queries) a.body) (held_are l.shape (keys_bytes keys) keys honest.keys (spelled h) honest.spelled)
        (honest_done l (Some (keys_bytes keys)) (record { target = Score; body = ciphers_bytes queries }) a.body honest) in
        let asked = scores_spelled l.shape (has h) (has_room h) (keywords_of l.terms (distinct r.query)) h.asks.rows h.asks.bin r.stream h.asks.asked h.asks.rest h.asks.drawn in
        let same_queries : done.queries ≡ queries = one-list l.shape.degree (keyword_blocks_of l.shape) done.queries queries (ciphers_bytes queries) done.asked asked in
        let same_replies : done.scores ≡ replies =
        one-list l.shape.degree (document_blocks l.shape) done.scores replies a.body (record { ciphers = scores-ciphers l keys done.queries done.scores (has h).degree done.scored; spelled = done.is }) a.spelled in
        subst (λ (cs : List Ciphertext). AreScoreReplies (weights_of l) keys cs replies) same_queries (subst (AreScoreReplies (weights_of l) keys done.queries) same_replies done.scored)

    able : CanScore (weights_of l) keys queries
    unfolding keyword_blocks keyword_blocks_of
    able =
        let asked = scores_spelled l.shape (has h) (has_room h) (keywords_of l.terms (distinct r.query)) h.asks.rows h.asks.bin r.stream h.asks.asked h.asks.rest h.asks.drawn in
        record {
          degree = (has h).degree;
          key_set = (can h).keys_for.set;
          keys_of_degree = (can h).keys_for.degree;
          blocks = asked.ciphers.count_is;
          ciphers = asked.ciphers.ciphers;
          query_degree = asked.ciphers.degrees;
        }

    words : AreKeywords (weights_of l) keys queries (signed_coefficients secret) (keywords_of l.terms (distinct r.query))
    words = record {
      secret = subst (λ (n : ℕ). IsTernary n (signed_coefficients secret)) (can h).degree (secret-IsTernary secret (can h).is_secret);
      good = (can h).good.rotations;
      distinct = numbers_once l.terms (distinct r.query) (distinct_once r.query);
      known = subst (λ (m : ℕ). All (λ y. y < m) (keywords_of l.terms (distinct r.query))) h.library.built.good.published.count (numbers_within l.terms (distinct r.query));
      queries = scores_asked l.shape (has h) (has_room h) (keywords_of l.terms (distinct r.query)) h.asks.rows h.asks.bin r.stream h.asks.asked h.asks.rest h.asks.drawn;
    }

    scores_sure : All (IsSure secret) replies
    scores_sure =
        let fits : 2 * score_bound (numbers_of (weights_of l)) < q = subst (λ (b : ℕ). 2 * b < q) (sym (bounds_agree l)) (has_room h).score_fits in
        let fewer : length (keywords_of l.terms (distinct r.query)) ≤ 16 = omega (arith, few h, numbers_few l.terms (distinct r.query)) in
        All-from_get_or (IsSure secret) replies no_ciphertext
        (λ i u.
        let shown = replies_show (weights_of l) keys queries replies able scored (signed_coefficients secret) (keywords_of l.terms (distinct r.query)) words fewer (weights_small l.shape None l.weights h.library.built.good.each) i u in
        sure_by l.shape.degree secret (ciphertext_at replies i) shown.message (score_bound (numbers_of (weights_of l))) (a.spelled.ciphers.degrees i no_ciphertext u) shown.spelled.len shown.spelled.reduced shown.means fits)

  -- ---- records

  module _ (hits : List Ranked) (placed : List (Option ℕ)) (replies : List Ciphertext) (ranked : ReadsHits r es l.shape l.terms hits)
      (p : IsPlacement (choices_of l.shape hits) (bucket_count l.shape.hits) placed) (a : Answered es l.shape.degree (bucket_count l.shape.hits * record_chunks l.shape.degree) Meta replies) where
    -- each row that is asked is one of the rows
    row_within : (bucket : ℕ) → bucket < bucket_count l.shape.hits → get_or h.asks.rows bucket 0 < l.shape.rows
    row_within bucket b =
        subst (λ (x : ℕ). x < l.shape.rows)
        (sym
        (ap (λ (rows : List ℕ). get_or rows bucket 0) (rows_are h hits ranked placed p replies a)
        ∙ get_or-map-range_with_len (λ (x : ℕ). row_asked l.shape hits (slice_index_or placed x None) x) 0 (bucket_count l.shape.hits) bucket bucket 0 b (omega arith)))
        (step (slice_index_or placed bucket None) refl)
      where
        step : (o : Option ℕ) → slice_index_or placed bucket None ≡ o → row_asked l.shape hits o bucket < l.shape.rows
        step None e = (has h).rows_low
        step (Some rank) e =
            let there = p.places.only bucket rank e in
            let within : rank < length hits = omega (arith, there.0, length-map hits (λ (x : Ranked). candidates_of l.shape.salt (bucket_count l.shape.hits) x.document)) in
            let number = document_at hits rank in
            let inside : number < length documents = hits_within h hits ranked rank no_hit within in
            let document = get_or documents number nil in
            let lists : Contains (candidates_of l.shape.salt (bucket_count l.shape.hits) number) bucket =
            subst (λ (x : ℕ). Contains (candidates_of l.shape.salt (bucket_count l.shape.hits) number) x) there.1
            (subst (λ (xs : List ℕ). Contains xs (slice_index p.choices rank)) (get_or-map (λ (x : Ranked). candidates_of l.shape.salt (bucket_count l.shape.hits) x.document) hits rank no_hit [] within)
            (p.is_least.assigns.candidate rank there.0)) in
            let shown : ShowsDocument l bucket number document = shows_document documents settings l h.library bucket number document b (slice_get-get_or documents number nil inside) lists in
            shown.row

    gathered_are : gathered l keys h.asks.asked.records ≡ replies
    gathered_are =
        let queries = h.asks.asked.records in
        let honest : IsHonest l (Some (keys_bytes keys)) (exchange_of (record { target = Meta; body = ciphers_bytes queries }) (reply_with 200 a.body)) = round h _ _ Meta replies a 1 (ciphers_bytes queries) refl refl in
        let done : IsGathered l keys (ciphers_bytes queries) a.body =
        subst (λ (o : Option Keys). IsDone l o Meta (ciphers_bytes queries) a.body) (held_are l.shape (keys_bytes keys) keys honest.keys (spelled h) honest.spelled)
        (honest_done l (Some (keys_bytes keys)) (record { target = Meta; body = ciphers_bytes queries }) a.body honest) in
        let same : done.queries ≡ queries = one-list l.shape.degree (bucket_count l.shape.hits) done.queries queries (ciphers_bytes queries) done.asked (queries_spelled h hits ranked placed p replies a) in
        sym (ap (gathered l keys) same)
        ∙ one-list l.shape.degree (bucket_count l.shape.hits * record_chunks l.shape.degree) (gathered l keys done.queries) replies a.body
        (record { ciphers = gathered-ciphers l keys done.queries (has h).degree; spelled = done.is }) a.spelled

    one_sure : (i bucket chunk : ℕ) → bucket < bucket_count l.shape.hits → chunk < record_chunks l.shape.degree → bucket * record_chunks l.shape.degree + chunk ≡ i → IsSure secret (ciphertext_at replies i)
    one_sure i bucket chunk b c is =
        let queries = h.asks.asked.records in
        let size = record_chunks l.shape.degree in
        let row = get_or h.asks.rows bucket 0 in
        let query = ciphertext_at queries bucket in
        let all = gathered l keys queries in
        let asks : AsksFor l.shape.degree secret query l.shape.rows row =
        records_asked l.shape (has h) (has_room h) (keywords_of l.terms (distinct r.query)) h.asks.rows h.asks.bin r.stream h.asks.asked h.asks.rest h.asks.drawn bucket row
        (omega (arith, b, rows_long h hits ranked placed p replies a)) refl (row_within bucket b) in
        let sure : All (IsSure secret) (retrieved (bucket_table l bucket) keys query) =
        table_sure l secret keys (can h) (bucket_table l bucket) query row (is-bucket_table l h.library.built.good (has_room h) bucket b) refl rows_keys (has_room h).records_fit asks in
        let inside : chunk < length (retrieved (bucket_table l bucket) keys query) = omega (arith, c, length-table_reply (bucket_table l bucket) (expanded keys query (log2_up l.shape.rows))) in
        let same : ciphertext_at (retrieved (bucket_table l bucket) keys query) chunk ≡ ciphertext_at replies i =
        sym (ap (λ (cs : List Ciphertext). ciphertext_at cs chunk) (gathered-at l keys queries bucket b)) ∙ get_or-take size (drop (bucket * size) all) chunk no_ciphertext c
        ∙ get_or-drop (bucket * size) all chunk no_ciphertext ∙ ap (λ (k : ℕ). get_or all k no_ciphertext) is ∙ ap (λ (cs : List Ciphertext). ciphertext_at cs i) gathered_are in
        subst (IsSure secret) same (sure chunk no_ciphertext inside)

    records_sure : All (IsSure secret) replies
    records_sure =
        All-from_get_or (IsSure secret) replies no_ciphertext
        (λ i u.
        let size = record_chunks l.shape.degree in
        let count = bucket_count l.shape.hits in
        let low : i < count * size = omega (arith, u, a.spelled.ciphers.count_is) in
        let parts : i / size * size + i % size ≡ i = div-add-mod' i size in
        one_sure i (i / size) (i % size) (below count size i (i / size) (i % size) low parts) (mod-lt i (positive count size i low)) parts)
      where
        positive : (count size i : ℕ) → i < count * size → 0 < size
        positive count zero i u = absurd (omega arith)
        positive count (suc size) i u = omega arith

        below : (count size i bucket chunk : ℕ) → i < count * size → bucket * size + chunk ≡ i → bucket < count
        below count size i bucket chunk u is = ⊎_elim (λ v. v) (λ v. absurd (omega (arith, mul-le-mul_right size v))) (cases_lt bucket count)

  -- ---- the bin

  module _ (hits : List Ranked) (records : List Record) (replies : List Ciphertext) (read : ReadsRecords r es l.shape l.terms hits (Ok records))
      (a : Answered es l.shape.degree l.shape.chunks ForDocument replies) where
    bin_is_within : h.asks.bin < l.shape.bins
    bin_is_within =
        let all = records_plain h hits (Ok records) read in
        let are : AreRecordsOf documents l hits records = subst (AreRecordsOf documents l hits) (sym (same records all.all all.is)) all.are in
        subst (λ (x : ℕ). x < l.shape.bins) (sym (h.asks.picked_bin (made_within h _ _ ForDocument replies a) hits records read)) (of_pick are (eqb r.pick 0) (r.pick - 1))
      where
        same : (xs ys : List Record) → ◌≡◌ {A = Result (List Record) SearchFault} (Ok xs) (Ok ys) → xs ≡ ys
        same xs ys e = cc

        at_rank : AreRecordsOf documents l hits records → (k : ℕ) (o : Option Record) → slice_get records k ≡ o → bin_asked o < l.shape.bins
        at_rank are k None e = (has h).bins_low
        at_rank are k (Some rec) e =
            let s : StandsAt documents l hits k rec = record_at documents l hits records k rec are e in
            omega (arith, ap (λ (x : Place). x.bin) s.of_hit.place, bin_within l.shape s.of_hit.shown.place s.of_hit.shown.within)

        of_pick : AreRecordsOf documents l hits records → (b : Bool) (k : ℕ) → bin_asked (cond b None (slice_get records k)) < l.shape.bins
        of_pick are true k = (has h).bins_low
        of_pick are false k = at_rank are k (slice_get records k) refl

    document_sure : All (IsSure secret) replies
    document_sure =
        let query = ciphertext_at h.asks.asked.document 0 in
        let body = ciphers_bytes h.asks.asked.document in
        let honest : IsHonest l (Some (keys_bytes keys)) (exchange_of (record { target = ForDocument; body = body }) (reply_with 200 a.body)) = round h _ _ ForDocument replies a 2 body refl refl in
        let done : IsFetched l keys body a.body =
        subst (λ (o : Option Keys). IsDone l o ForDocument body a.body) (held_are l.shape (keys_bytes keys) keys honest.keys (spelled h) honest.spelled)
        (honest_done l (Some (keys_bytes keys)) (record { target = ForDocument; body = body }) a.body honest) in
        let asked = document_spelled l.shape (has h) (has_room h) (keywords_of l.terms (distinct r.query)) h.asks.rows h.asks.bin r.stream h.asks.asked h.asks.rest h.asks.drawn in
        let same : done.query ≡ query = ap (λ (cs : List Ciphertext). ciphertext_at cs 0) (one-list l.shape.degree 1 (done.query ∷ []) (query ∷ []) body done.asked asked) in
        let are : retrieved (bin_table l) keys query ≡ replies =
        sym (ap (retrieved (bin_table l) keys) same)
        ∙ one-list l.shape.degree l.shape.chunks (retrieved (bin_table l) keys done.query) replies a.body (record { ciphers = retrieved-ciphers (bin_table l) keys done.query (has h).degree; spelled = done.is }) a.spelled in
        let asks : AsksFor l.shape.degree secret query l.shape.bins h.asks.bin =
        document_asked l.shape (has h) (has_room h) (keywords_of l.terms (distinct r.query)) h.asks.rows h.asks.bin r.stream h.asks.asked h.asks.rest h.asks.drawn bin_is_within in
        subst (All (IsSure secret)) are
        (table_sure l secret keys (can h) (bin_table l) query h.asks.bin (is-bin_table l h.library.built.good (has_room h)) refl bins_keys (has_room h).bins_fit asks)

  pub all_sure : AreSure r es l.shape l.terms
  all_sure = record { scores = scores_sure; records = records_sure; document = document_sure }

-- by what was published
pub search_sure : (documents : List Document) (settings : Settings) (l : Parts) (held : Option (List ℕ)) (r : Search) (es : List Exchange) (result : Result Found SearchFault) (left : Stream)
    → IsLibraryFor documents settings l → AreHonest l held es → FollowsPlan es → GoesOn r es
    → (s : Numbers) (terms : List (List ℕ)) → Publishes es s terms → test_of s ≡ Ok s → Asks r es s terms result left → AreSure r es s terms
search_sure documents settings l held r es result left library honest follows goes s terms published passes asks =
    let same : ◌≡◌ {A = Numbers × List (List ℕ)} (s, terms) (l.shape, l.terms) = published_same documents settings l held r es library honest follows goes s terms published in
    subst (λ (p : Numbers × List (List ℕ)). AreSure r es p.0 p.1) (sym same)
    (all_sure {result = result} {left = left}
    (record {
      library = library;
      honest = honest;
      follows = follows;
      goes = goes;
      published = subst (λ (p : Numbers × List (List ℕ)). Publishes es p.0 p.1) same published;
      passes = subst (λ (p : Numbers × List (List ℕ)). test_of p.0 ≡ Ok p.0) same passes;
      asks = subst (λ (p : Numbers × List (List ℕ)). Asks r es p.0 p.1 result left) same asks;
    }))
