-- What a search answers over honest exchanges: the plain answer, or a refusal that is no fault of the replies.
use Rattle.std.proofs.Common.{◌≡◌, ◌≢◌, ℕ, zero, suc, ◌*◌, ◌<◌, ◌≤◌, ◌⊎◌, ⊎_elim, refl, sym, ap, subst, ◌∙◌, arith, mul_assoc, le_of_mul-le-mul_right, le_of_eq, le_antisymm, List, [], ◌∷◌, ◌++◌, length, take, map, Option, Some, Result, Ok, Err, IfOk, IfErr}
use Rattle.std.specs.Prelude.{slice_get}
use Rattle.std.proofs.lemmas.Option.{none-some, same_Some, slice_get_within}
use Rattle.std.proofs.lemmas.List.{length-map, length-take}
use Rattle.rand_core.specs.Stream.{Stream}
use Rattle.co_link.specs.declared.messages.Target.{Target}
use Rattle.co_link.specs.declared.messages.Target.TheVariants.{Public, Keys as ForKeys, Score, Meta, Document as ForDocument}
use Rattle.co_link.specs.declared.messages.Exchange.{Exchange}
use Rattle.co_link.specs.Exchanges.{exchange_of}
use Rattle.co_noise.specs.Shapes.{Numbers, keyword_blocks, document_blocks}
use Rattle.co_noise.specs.Bounds.{test_of}
use Rattle.co_noise.specs.declared.testing.TestFault.{TestFault}
use Rattle.co_bfv.specs.Totals.{ciphertext_at}
use Rattle.co_bucket.specs.Lists.{bucket_count}
use Rattle.co_bucket.specs.Bytes.{record_chunks}
use Rattle.co_text.specs.declared.found.Found.{Found}
use Rattle.co_text.specs.declared.ranks.Ranked.{Ranked}
use Rattle.co_text.specs.Terms.{distinct}
use Rattle.co_text.specs.Numbers.{numbers_of, unknown_in}
use Rattle.co_corpus.specs.declared.documents.Document.{Document}
use Rattle.co_tfidf.specs.Hits.{hit_of}
use Rattle.co_tfidf.specs.Found.{picked, found}
use Rattle.co_tfidf.specs.Vocabulary.{vocabulary}
use Rattle.co_wire.specs.Bodies.{keys_bytes, ciphers_bytes, SpellsCiphers, SpellsKeys}
use Rattle.co_wire.specs.Lengths.{request_size, reply_size}
use Rattle.co_wire.specs.Public.{public_of}
use Rattle.co_library.specs.declared.settings.Settings.{Settings}
use Rattle.co_library.specs.Libraries.{Parts, IsLibrary}
use Rattle.co_rounds.specs.Answers.{HandsOver, IsGoodRequest, reply_with}
use Rattle.co_rounds.specs.Honest.{IsHonest, AreHonest}
use Rattle.co_rounds.specs.Plans.{Seen, trace, targets, plan_of, FollowsPlan}
use Rattle.co_rounds.specs.Placing.{CanBePlaced, IsUnplaced}
use Rattle.co_rounds.specs.Recording.{IsLibraryFor}
use Rattle.co_rounds.proofs.Rounds.{honest_done, public_told, score_reply_spelled, records_reply_spelled, document_reply_spelled}
use Rattle.co_rounds.proofs.OneAnswer.{good_answered}
use Rattle.co_client.specs.declared.fault.SearchFault.{SearchFault}
use Rattle.co_client.specs.declared.fault.SearchFault.TheVariants.{TooManyKeywords, BadPublic, Test, NoPlacement, Link, Refused, BadReply, WrongRecord, BadPlace, NotByte, BadRecord, OutOfMemory}
use Rattle.co_client.specs.Openings.{IsBadReply}
use Rattle.co_client.proofs.Whole_replies.{spells_well, empty_well}
use Rattle.co_client.specs.Plain.{plain_hits, AnswersPlainly}
use Rattle.co_client.specs.Causes.{Search, Publishes, ReadsHits, ReadsRecords, ReadsPicked, IsRead, IsRefusedBy, HasBadPublic, FailsTest, HasBadReply, HasNoPlacement, HasBadRecord, HasBadText, IsCause, Asks}
use Rattle.co_client.specs.Going.{GoesOn}
use Rattle.co_client.proofs.Spelled.{spelled-long}
use Rattle.co_client.proofs.Exchanged.{at_end, first_sent, some_honest, parts_of, published_is}
use Rattle.co_client.proofs.Fresh_queries.{scores_spelled, records_spelled, document_spelled}
use Rattle.co_client.proofs.Honest_rounds.{IsHonestSearch, has, has_room, spelled, sent, body_at, under}
use Rattle.co_client.proofs.Plain_hits.{hits_plain}
use Rattle.co_client.proofs.Placed_hits.{can_be_placed}
use Rattle.co_client.proofs.Plain_records.{AreRecordsOf, shown_plain, records_plain}
use Rattle.co_client.proofs.Plain_text.{picked_plain}

-- ---- answers and faults

-- an answer is no fault
no_fault : {X : Type 0} (fault : SearchFault) (x : X) → Err fault ≡ Ok x → ⊥
no_fault fault x e = absurd cc

same_answer : {X : Type 0} (x y : X) → ◌≡◌ {A = Result X SearchFault} (Ok x) (Ok y) → x ≡ y
same_answer x y e = cc

not_both : {X : Type 0} (place : ℕ) (x : X) → ◌≡◌ {A = Result X ℕ} (Err place) (Ok x) → ⊥
not_both place x e = absurd cc

-- ---- what was published

module _ (documents : List Document) (settings : Settings) (l : Parts) (held : Option (List ℕ)) (r : Search) (es : List Exchange)
    (library : IsLibraryFor documents settings l) (honest : AreHonest l held es) (follows : FollowsPlan es) (goes : GoesOn r es) where
  good_library : IsLibrary l
  good_library = library.built.good

  -- the published numbers and terms are the library's
  pub published_same : (s : Numbers) (terms : List (List ℕ)) → Publishes es s terms → ◌≡◌ {A = Numbers × List (List ℕ)} (s, terms) (l.shape, l.terms)
  published_same s terms p =
      let asked = first_sent p.first p.others (subst FollowsPlan p.are follows) in
      let h = some_honest l held es 0 p.first honest (ap (λ (xs : List Exchange). slice_get xs 0) p.are) in
      published_is l good_library h.0 p.first h.1 asked.0 asked.1 (s, terms) p.read

  -- where more than one exchange was made, the first published them
  record ArePublished : Type 0 where
    pub shape : Numbers
    pub terms : List (List ℕ)
    pub published : Publishes es shape terms

  two_publish : 1 < length es → ArePublished
  two_publish more = step es refl
    where
      read : (first : Exchange) (others : List Exchange) → es ≡ first ∷ others → (o : Result (Numbers × List (List ℕ)) ℕ) → public_of first.reply.body ≡ o → ArePublished
      read first others is (Ok p) e = record { shape = p.0; terms = p.1; published = record { first = first; others = others; are = is; read = e } }
      read first others is (Err place) e =
          let known : trace (first ∷ others) ≡ take (length (first ∷ others)) (plan_of (public_of first.reply.body)) = subst FollowsPlan is follows in
          let one : trace (first ∷ others) ≡ take (length (first ∷ others)) ((Public, 0) ∷ []) = known ∙ ap (λ o. take (length (first ∷ others)) (plan_of o)) e in
          absurd (short (length (first ∷ others)) ((Public, 0) ∷ []) (length (trace (first ∷ others))) (length-map (first ∷ others) _) (ap (λ (ss : List Seen). length ss) one) (subst (λ (xs : List Exchange). 1 < length xs) is more) refl)
        where
          short : (n : ℕ) (ss : List Seen) (m : ℕ) → m ≡ n → m ≡ length (take n ss) → 1 < n → length ss ≡ 1 → ⊥
          short n ss m a b c d = omega (arith, a, b, c, d, length-take n ss)

      step : (xs : List Exchange) → es ≡ xs → ArePublished
      step [] e = absurd (omega (arith, more, ap (λ (xs : List Exchange). length xs) e))
      step (first ∷ others) e = read first others e (public_of first.reply.body) refl

  library_published : 1 < length es → Publishes es l.shape l.terms
  library_published more = let p = two_publish more in subst (λ (x : Numbers × List (List ℕ)). Publishes es x.0 x.1) (published_same p.shape p.terms p.published) p.published

  last_honest : (e : Exchange) (front : List Exchange) → es ≡ front ++ (e ∷ []) → (o : Option (List ℕ)) × IsHonest l o e
  last_honest e front are = some_honest l held es (length front) e honest (ap (λ (xs : List Exchange). slice_get xs (length front)) are ∙ at_end front e)

  module _ (result : Result Found SearchFault) (left : Stream) (asks : (s : Numbers) (terms : List (List ℕ)) → Publishes es s terms → test_of s ≡ Ok s → Asks r es s terms result left) where
    search_of : Publishes es l.shape l.terms → test_of l.shape ≡ Ok l.shape → IsHonestSearch documents settings l held r es result left
    search_of published passes = record {
      library = library;
      honest = honest;
      follows = follows;
      goes = goes;
      published = published;
      passes = passes;
      asks = asks l.shape l.terms published passes;
    }

    -- ---- what is answered

    -- what was found is what plain search finds
    answer_plain : (f : Found) → IsRead r es f → (f ≡ found settings.terms documents settings.hits r.query r.pick) × CanBePlaced l.shape (plain_hits documents settings r.query)
    answer_plain f read =
        let same = published_same read.shape read.terms read.read.ranked.published in
        let all : ReadsRecords r es l.shape l.terms read.hits (Ok read.records) = subst (λ (p : Numbers × List (List ℕ)). ReadsRecords r es p.0 p.1 read.hits (Ok read.records)) same read.read in
        let pick : ReadsPicked r es l.shape read.hits read.records (Ok f.document) = subst (λ (p : Numbers × List (List ℕ)). ReadsPicked r es p.0 read.hits read.records (Ok f.document)) same read.picked in
        let h = search_of all.ranked.published all.ranked.passes in
        let hits : read.hits ≡ plain_hits documents settings r.query = hits_plain h read.hits all.ranked in
        let records = records_plain h read.hits (Ok read.records) all in
        let are : AreRecordsOf documents l read.hits read.records = subst (AreRecordsOf documents l read.hits) (sym (same_answer read.records records.all records.is)) records.are in
        let document : f.document ≡ picked documents r.pick (map (hit_of documents) read.hits) =
        same_answer f.document (picked documents r.pick (map (hit_of documents) read.hits)) (picked_plain h read.hits read.records all are (Ok f.document) pick) in
        let shown : f.hits ≡ map (hit_of documents) read.hits = read.shown ∙ shown_plain documents l read.hits read.records are in
        let unknown : f.unknown ≡ unknown_in (vocabulary settings.terms documents) (distinct r.query) =
        read.unknown ∙ ap (λ (p : Numbers × List (List ℕ)). unknown_in p.1 (distinct r.query)) same ∙ ap (λ (ts : List (List ℕ)). unknown_in ts (distinct r.query)) library.built.is.terms in (
          λ t. record {
            hits = (shown ∙ ap (map (hit_of documents)) hits) t;
            unknown = unknown t;
            document = (document ∙ ap (λ (xs : List Ranked). picked documents r.pick (map (hit_of documents) xs)) hits) t;
          },
          subst (CanBePlaced l.shape) hits (can_be_placed l.shape read.hits all.placed all.placement),
        )

    -- hits that can't be placed are those of the plain answer
    unplaced_plain : (items buckets : List ℕ) → HasNoPlacement r es items buckets → IsUnplaced l.shape (plain_hits documents settings r.query) items buckets
    unplaced_plain items buckets b =
        let same = published_same b.shape b.terms b.ranked.published in
        let ranked : ReadsHits r es l.shape l.terms b.hits = subst (λ (p : Numbers × List (List ℕ)). ReadsHits r es p.0 p.1 b.hits) same b.ranked in
        let unplaced : IsUnplaced l.shape b.hits items buckets = subst (λ (p : Numbers × List (List ℕ)). IsUnplaced p.0 b.hits items buckets) same b.unplaced in
        subst (λ (xs : List Ranked). IsUnplaced l.shape xs items buckets) (hits_plain (search_of ranked.published ranked.passes) b.hits ranked) unplaced

    -- ---- what is never answered

    no_bad_record : (fault : SearchFault) → HasBadRecord r es fault → ⊥
    no_bad_record fault b =
        let same = published_same b.shape b.terms b.read.ranked.published in
        let all : ReadsRecords r es l.shape l.terms b.hits (Err fault) = subst (λ (p : Numbers × List (List ℕ)). ReadsRecords r es p.0 p.1 b.hits (Err fault)) same b.read in
        let records = records_plain (search_of all.ranked.published all.ranked.passes) b.hits (Err fault) all in
        no_fault fault records.all records.is

    no_bad_text : (fault : SearchFault) → HasBadText r es fault → ⊥
    no_bad_text fault b =
        let same = published_same b.shape b.terms b.read.ranked.published in
        let all : ReadsRecords r es l.shape l.terms b.hits (Ok b.records) = subst (λ (p : Numbers × List (List ℕ)). ReadsRecords r es p.0 p.1 b.hits (Ok b.records)) same b.read in
        let pick : ReadsPicked r es l.shape b.hits b.records (Err fault) = subst (λ (p : Numbers × List (List ℕ)). ReadsPicked r es p.0 b.hits b.records (Err fault)) same b.picked in
        let h = search_of all.ranked.published all.ranked.passes in
        let records = records_plain h b.hits (Ok b.records) all in
        let are : AreRecordsOf documents l b.hits b.records = subst (AreRecordsOf documents l b.hits) (sym (same_answer b.records records.all records.is)) records.are in
        no_fault fault (picked documents r.pick (map (hit_of documents) b.hits)) (picked_plain h b.hits b.records all are (Err fault) pick)

    no_bad_public : (place : ℕ) → HasBadPublic es place → ⊥
    no_bad_public place b =
        let e : Exchange = exchange_of b.ends.request (reply_with 200 b.body) in
        let h = last_honest e b.ends.front b.ends.are in
        let told = public_told l good_library h.0 b.ends.request.body b.body (parts_of l h.0 e Public b.ends.request.body b.ends.target_is refl refl h.1) in
        not_both place (l.shape, l.terms) (sym b.bad ∙ told)

    test_plain : (fault : TestFault) → FailsTest es fault → test_of l.shape ≡ Err fault
    test_plain fault b = subst (λ (p : Numbers × List (List ℕ)). test_of p.0 ≡ Err fault) (published_same b.shape b.terms b.published) b.fails

    good_reply : (target : Target) (o : Option (List ℕ)) (asked body : List ℕ) (place : ℕ) → IsHonest l o (exchange_of (record { target = target; body = asked }) (reply_with 200 body)) → target ≢ Public
        → IsBadReply (reply_size l.shape target) body place → ⊥
    good_reply Public o asked body place h later bad = later refl
    good_reply ForKeys o asked body place h later bad =
        let done : HandsOver l.shape asked × (body ≡ []) = honest_done l o (record { target = ForKeys; body = asked }) body h in
        empty_well body place done.1 bad
    good_reply Score o asked body place h later bad =
        spells_well l.shape.degree (document_blocks l.shape) (reply_size l.shape Score) body place (score_reply_spelled l good_library o asked body h) refl bad
    good_reply Meta o asked body place h later bad =
        spells_well l.shape.degree (bucket_count l.shape.hits * record_chunks l.shape.degree) (reply_size l.shape Meta) body place (records_reply_spelled l good_library o asked body h)
        (sym (mul_assoc (bucket_count l.shape.hits) (record_chunks l.shape.degree) (28 * l.shape.degree))) bad
    good_reply ForDocument o asked body place h later bad =
        spells_well l.shape.degree l.shape.chunks (reply_size l.shape ForDocument) body place (document_reply_spelled l good_library o asked body h) refl bad

    no_bad_reply : (target : Target) (place : ℕ) → HasBadReply es target place → ⊥
    no_bad_reply target place b =
        let e : Exchange = exchange_of b.ends.request (reply_with 200 b.body) in
        let h = last_honest e b.ends.front b.ends.are in
        good_reply target h.0 b.ends.request.body b.body place (parts_of l h.0 e target b.ends.request.body b.ends.target_is refl refl h.1) b.later
        (subst (λ (p : Numbers × List (List ℕ)). IsBadReply (reply_size p.0 target) b.body place) (published_same b.shape b.terms b.published) b.bad)

    -- ---- statuses

    first_is : (xs : List Exchange) → es ≡ xs → (e : Exchange) → slice_get xs 0 ≡ Some e → (e.request.target ≡ Public) × (e.request.body ≡ [])
    first_is [] is e at = absurd (none-some e at)
    first_is (x ∷ xs) is e at = subst (λ (y : Exchange). (y.request.target ≡ Public) × (y.request.body ≡ [])) (same_Some x e at) (first_sent x xs (subst FollowsPlan is follows))

    behind_first : (j : ℕ) (e : Exchange) → slice_get es (suc j) ≡ Some e → IsHonestSearch documents settings l held r es result left
    behind_first j e at =
        let more : 1 < length es = omega (arith, slice_get_within es (suc j) e at) in
        let published = library_published more in
        search_of published (goes.tested l.shape l.terms published more)

    -- a request for keys or a query is good, so it is answered or memory is wanting
    module _ (j : ℕ) (e : Exchange) (at : slice_get es (suc (suc j)) ≡ Some e) (h : IsHonestSearch documents settings l held r es result left) where
      under_keys : (target : Target) → slice_get targets (suc (suc j)) ≡ Some target → IsGoodRequest l.shape (Some h.asks.asked.keys) target e.request.body → (e.reply.status ≡ 200) ⊎ (e.reply.status ≡ 503)
      under_keys target t good =
          let is : target ≡ e.request.target = same_Some target e.request.target (sym t ∙ (sent h (suc (suc j)) e at).0) in
          good_answered l (Some (keys_bytes h.asks.asked.keys)) e (under h j e at) (Some h.asks.asked.keys) (spelled h)
          (subst (λ (x : Target). IsGoodRequest l.shape (Some h.asks.asked.keys) x e.request.body) is good)

    as_many : (a b n : ℕ) → 16 ≤ n → a * (28 * n) ≡ b * (28 * n) → a ≡ b
    as_many a b n low e =
        let some : 0 < 28 * n = omega arith in
        le_antisymm (le_of_mul-le-mul_right (le_of_eq e) some) (le_of_mul-le-mul_right (le_of_eq (sym e)) some)

    status_of : (k : ℕ) (e : Exchange) → slice_get es k ≡ Some e → (e.reply.status ≡ 200) ⊎ (e.reply.status ≡ 503)
    status_of zero e at =
        let asked = first_is es refl e at in
        let h = some_honest l held es 0 e honest at in
        good_answered l h.0 e h.1 h.1.keys h.1.spelled (subst (λ (x : Target). IsGoodRequest l.shape h.1.keys x e.request.body) (sym asked.0) asked.1)
    status_of (suc zero) e at =
        let h = behind_first 0 e at in
        let o = some_honest l held es 1 e honest at in
        let target : ForKeys ≡ e.request.target = same_Some ForKeys e.request.target (sent h 1 e at).0 in
        let body : keys_bytes h.asks.asked.keys ≡ e.request.body = same_Some (keys_bytes h.asks.asked.keys) e.request.body (body_at h 1 e at) in
        let good : HandsOver l.shape e.request.body = record { keys = h.asks.asked.keys; spelled = subst (SpellsKeys l.shape h.asks.asked.keys) body (spelled h) } in
        good_answered l o.0 e o.1 o.1.keys o.1.spelled (subst (λ (x : Target). IsGoodRequest l.shape o.1.keys x e.request.body) target good)
    status_of (suc (suc zero)) e at =
        let h = behind_first 1 e at in
        let body : ciphers_bytes h.asks.asked.scores ≡ e.request.body = same_Some (ciphers_bytes h.asks.asked.scores) e.request.body (body_at h 2 e at) in
        under_keys 0 e at h Score refl
        (record {
          ciphers = h.asks.asked.scores;
          spelled = subst (SpellsCiphers l.shape.degree (keyword_blocks l.shape) h.asks.asked.scores) body
              (scores_spelled l.shape (has h) (has_room h) (numbers_of l.terms (distinct r.query)) h.asks.rows h.asks.bin r.stream h.asks.asked h.asks.rest h.asks.drawn);
        })
    status_of (suc (suc (suc zero))) e at =
        let h = behind_first 2 e at in
        let body : ciphers_bytes h.asks.asked.records ≡ e.request.body = same_Some (ciphers_bytes h.asks.asked.records) e.request.body (body_at h 3 e at) in
        let spells : SpellsCiphers l.shape.degree (length h.asks.rows) h.asks.asked.records e.request.body =
        subst (SpellsCiphers l.shape.degree (length h.asks.rows) h.asks.asked.records) body
        (records_spelled l.shape (has h) (has_room h) (numbers_of l.terms (distinct r.query)) h.asks.rows h.asks.bin r.stream h.asks.asked h.asks.rest h.asks.drawn) in
        let target : e.request.target ≡ Meta = same_Some e.request.target Meta (sym (sent h 3 e at).0) in
        let size : length e.request.body ≡ request_size l.shape Meta = (sent h 3 e at).1 ∙ ap (request_size l.shape) target in
        let many : length h.asks.rows ≡ bucket_count l.shape.hits =
        as_many (length h.asks.rows) (bucket_count l.shape.hits) l.shape.degree (has h).degree_low
        (sym (spelled-long l.shape.degree (length h.asks.rows) h.asks.asked.records e.request.body spells) ∙ size) in
        under_keys 1 e at h Meta refl
        (record { ciphers = h.asks.asked.records; spelled = subst (λ (k : ℕ). SpellsCiphers l.shape.degree k h.asks.asked.records e.request.body) many spells })
    status_of (suc (suc (suc (suc zero)))) e at =
        let h = behind_first 3 e at in
        let body : ciphers_bytes h.asks.asked.document ≡ e.request.body = same_Some (ciphers_bytes h.asks.asked.document) e.request.body (body_at h 4 e at) in
        under_keys 2 e at h ForDocument refl
        (record {
          ciphers = ciphertext_at h.asks.asked.document 0 ∷ [];
          spelled = subst (SpellsCiphers l.shape.degree 1 (ciphertext_at h.asks.asked.document 0 ∷ [])) body
              (document_spelled l.shape (has h) (has_room h) (numbers_of l.terms (distinct r.query)) h.asks.rows h.asks.bin r.stream h.asks.asked h.asks.rest h.asks.drawn);
        })
    status_of (suc (suc (suc (suc (suc k))))) e at =
        let h = behind_first (suc (suc (suc (suc k)))) e at in
        absurd (none-some e.request.target (sent h (suc (suc (suc (suc (suc k))))) e at).0)

    memory_alone : (target : Target) (status : ℕ) → IsRefusedBy es target status → status ≡ 503
    memory_alone target status b =
        let e : Exchange = exchange_of b.ends.request b.reply in
        let at : slice_get es (length b.ends.front) ≡ Some e = ap (λ (xs : List Exchange). slice_get xs (length b.ends.front)) b.ends.are ∙ at_end b.ends.front e in
        ⊎_elim (λ u. absurd (b.bad (sym b.is ∙ u))) (λ u. sym b.is ∙ u) (status_of (length b.ends.front) e at)

-- ---- all of them

pub search_plain : (documents : List Document) (settings : Settings) (l : Parts) (held : Option (List ℕ)) (r : Search) (es : List Exchange) (result : Result Found SearchFault) (left : Stream)
    → IsLibraryFor documents settings l → AreHonest l held es → FollowsPlan es → GoesOn r es
    → ((s : Numbers) (terms : List (List ℕ)) → Publishes es s terms → test_of s ≡ Ok s → Asks r es s terms result left)
    → IfOk result (IsRead r es) → IfErr result (IsCause r es) → AnswersPlainly documents settings l r.query r.pick result
search_plain documents settings l held r es (Ok f) left library honest follows goes asks read refused = answer_plain documents settings l held r es library honest follows goes (Ok f) left asks f read
search_plain documents settings l held r es (Err (TooManyKeywords found)) left library honest follows goes asks read refused = refused.0
search_plain documents settings l held r es (Err (BadPublic place)) left library honest follows goes asks read refused = no_bad_public documents settings l held r es library honest follows goes (Err (BadPublic place)) left asks place refused
search_plain documents settings l held r es (Err (Test fault)) left library honest follows goes asks read refused = test_plain documents settings l held r es library honest follows goes (Err (Test fault)) left asks fault refused
search_plain documents settings l held r es (Err (NoPlacement items buckets)) left library honest follows goes asks read refused = unplaced_plain documents settings l held r es library honest follows goes (Err (NoPlacement items buckets)) left asks items buckets refused.0
search_plain documents settings l held r es (Err Link) left library honest follows goes asks read refused = tt
search_plain documents settings l held r es (Err (Refused target status)) left library honest follows goes asks read refused = memory_alone documents settings l held r es library honest follows goes (Err (Refused target status)) left asks target status refused
search_plain documents settings l held r es (Err (BadReply target place)) left library honest follows goes asks read refused = no_bad_reply documents settings l held r es library honest follows goes (Err (BadReply target place)) left asks target place refused
search_plain documents settings l held r es (Err (WrongRecord wanted other)) left library honest follows goes asks read refused = no_bad_record documents settings l held r es library honest follows goes (Err (WrongRecord wanted other)) left asks (WrongRecord wanted other) refused
search_plain documents settings l held r es (Err (BadPlace document)) left library honest follows goes asks read refused = no_bad_record documents settings l held r es library honest follows goes (Err (BadPlace document)) left asks (BadPlace document) refused
search_plain documents settings l held r es (Err (NotByte Meta reply place)) left library honest follows goes asks read refused = no_bad_record documents settings l held r es library honest follows goes (Err (NotByte Meta reply place)) left asks (NotByte Meta reply place) refused
search_plain documents settings l held r es (Err (NotByte ForDocument reply place)) left library honest follows goes asks read refused = no_bad_text documents settings l held r es library honest follows goes (Err (NotByte ForDocument reply place)) left asks (NotByte ForDocument reply place) refused
search_plain documents settings l held r es (Err (NotByte target reply place)) left library honest follows goes asks read refused = absurd refused
search_plain documents settings l held r es (Err (BadRecord document place)) left library honest follows goes asks read refused = no_bad_record documents settings l held r es library honest follows goes (Err (BadRecord document place)) left asks (BadRecord document place) refused
search_plain documents settings l held r es (Err OutOfMemory) left library honest follows goes asks read refused = tt
