-- Over honest exchanges each hit's record is that of its document, and names the place of its text.
use Rattle.std.proofs.Common.{◌≡◌, ℕ, zero, suc, ◌+◌, ◌*◌, ◌<◌, refl, sym, ap, subst, ◌∙◌, arith, true, cond, eqb, ℤ, List, [], ◌∷◌, length, get_or, take, drop, map, Option, Some, None, Result, Ok, Err}
use Rattle.std.specs.Prelude.{slice_get}
use Rattle.std.proofs.lemmas.Bool.Decides.{nat_tests}
use Rattle.std.proofs.lemmas.Option.{none-some, same_Some, slice_get-get_or}
use Rattle.std.proofs.lemmas.List.FromFn.{length-map-range_with_len}
use Rattle.rand_core.specs.Stream.{Stream}
use Rattle.co_link.specs.declared.messages.Target.TheVariants.{Meta}
use Rattle.co_link.specs.declared.messages.Exchange.{Exchange}
use Rattle.co_slots.specs.Payloads.{IsPayload}
use Rattle.co_bfv.specs.Ciphertexts.{Ciphertext}
use Rattle.co_bfv.specs.Totals.{ciphertext_at}
use Rattle.co_bfv.specs.Draws.{secret_draw}
use Rattle.co_bucket.specs.Lists.{bucket_count}
use Rattle.co_bucket.specs.Bytes.{record_chunks}
use Rattle.co_bucket.specs.Placement.{IsPlacement}
use Rattle.co_text.specs.declared.found.Found.{Found}
use Rattle.co_text.specs.declared.ranks.Ranked.{Ranked}
use Rattle.co_text.specs.Terms.{distinct}
use Rattle.co_text.specs.Numbers.{numbers_of}
use Rattle.co_corpus.specs.declared.documents.Document.{Document}
use Rattle.co_tfidf.specs.Hits.{title_or_none, hit_of}
use Rattle.co_pack.specs.declared.records.Record.{Record}
use Rattle.co_pack.specs.Records.{record_of}
use Rattle.co_pir.specs.Tables.{row_bytes}
use Rattle.co_pir.specs.Openings.{opened_reply}
use Rattle.co_wire.specs.Bodies.{keys_bytes, ciphers_bytes, SpellsCiphers}
use Rattle.co_library.specs.declared.settings.Settings.{Settings}
use Rattle.co_library.specs.Libraries.{Parts}
use Rattle.co_rounds.specs.Serving.{bucket_table}
use Rattle.co_rounds.specs.Placing.{choices_of, no_hit, document_at, document_row, document_start, row_asked, rows_asked}
use Rattle.co_rounds.specs.Recording.{ShowsDocument, AsksFor, bucket_replies}
use Rattle.co_rounds.proofs.Rounds.{record_round}
use Rattle.co_rounds.proofs.Recorded.{shows_document}
use Rattle.co_client.specs.declared.fault.SearchFault.{SearchFault}
use Rattle.co_client.specs.declared.fault.SearchFault.TheVariants.{WrongRecord, BadPlace}
use Rattle.co_client.specs.Causes.{Search, Answered, ReadsHits, ReadsRecords}
use Rattle.co_client.specs.Records.{◌>>=◌, opened_bytes, checked, record_read, records_read, bucket_of, hit_shown, hits_shown}
use Rattle.co_client.proofs.Firsts.{opened-ok}
use Rattle.co_client.proofs.Fresh_queries.{records_spelled, records_asked}
use Rattle.co_client.proofs.Honest_rounds.{IsHonestSearch, has, has_room, spelled, can, made_within, round}
use Rattle.co_client.proofs.Plain_hits.{hits_within}
use Rattle.co_client.proofs.Placed_hits.{bucket_within, bucket_lists, row_is}

-- ---- what records are to be

-- the record of a hit's document
pub record IsRecordOf (documents : List Document) (l : Parts) (x : Ranked) (r : Record) : Type 0 where
  pub document : Document
  pub is : slice_get documents x.document ≡ Some document
  pub bucket : ℕ
  pub shown : ShowsDocument l bucket x.document document
  pub number : r.document ≡ x.document
  pub title : r.title ≡ document.title
  pub place : r.place ≡ shown.place

-- the records of hits, by rank
abbrev pub AreRecordsOf : List Document → Parts → List Ranked → List Record → Type 0
AreRecordsOf documents l [] [] = Unit {0}
AreRecordsOf documents l [] (r ∷ rs) = ⊥
AreRecordsOf documents l (x ∷ xs) [] = ⊥
AreRecordsOf documents l (x ∷ xs) (r ∷ rs) = IsRecordOf documents l x r × AreRecordsOf documents l xs rs

-- hits are shown with their titles
pub shown_plain : (documents : List Document) (l : Parts) (xs : List Ranked) (rs : List Record) → AreRecordsOf documents l xs rs → hits_shown xs rs ≡ map (hit_of documents) xs
shown_plain documents l [] [] h = refl
shown_plain documents l [] (r ∷ rs) h = absurd h
shown_plain documents l (x ∷ xs) [] h = absurd h
shown_plain documents l (x ∷ xs) (r ∷ rs) h =
    let title : r.title ≡ title_or_none (slice_get documents x.document) = h.0.title ∙ sym (ap title_or_none h.0.is) in
    let first : hit_shown x r ≡ hit_of documents x = (λ t. record { document = x.document; score = x.score; title = title t }) in
    (λ t. first t ∷ shown_plain documents l xs rs h.1 t)

-- the record of a rank is that of the hit of the rank
pub record StandsAt (documents : List Document) (l : Parts) (xs : List Ranked) (k : ℕ) (r : Record) : Type 0 where
  pub hit : Ranked
  pub at : slice_get xs k ≡ Some hit
  pub of_hit : IsRecordOf documents l hit r

pub record_at : (documents : List Document) (l : Parts) (xs : List Ranked) (rs : List Record) (k : ℕ) (r : Record) → AreRecordsOf documents l xs rs → slice_get rs k ≡ Some r → StandsAt documents l xs k r
record_at documents l xs [] k r h e = absurd (none-some r e)
record_at documents l [] (s ∷ rs) k r h e = absurd h
record_at documents l (x ∷ xs) (s ∷ rs) zero r h e = record { hit = x; at = refl; of_hit = subst (IsRecordOf documents l x) (same_Some s r e) h.0 }
record_at documents l (x ∷ xs) (s ∷ rs) (suc k) r h e = let rest = record_at documents l xs rs k r h.1 e in record { hit = rest.hit; at = rest.at; of_hit = rest.of_hit }

pub no_record_at : (documents : List Document) (l : Parts) (xs : List Ranked) (rs : List Record) (k : ℕ) → AreRecordsOf documents l xs rs → slice_get rs k ≡ None → slice_get xs k ≡ None
no_record_at documents l [] rs k h e = refl
no_record_at documents l (x ∷ xs) [] k h e = absurd h
no_record_at documents l (x ∷ xs) (s ∷ rs) zero h e = absurd (none-some s (sym e))
no_record_at documents l (x ∷ xs) (s ∷ rs) (suc k) h e = no_record_at documents l xs rs k h.1 e

-- ---- reading them one after another

module _ (documents : List Document) (l : Parts) (secret : List ℤ) (replies : List Ciphertext) (placed : List (Option ℕ)) where
  -- the record of the hit of a rank is read
  record IsReadAt (rank : ℕ) (x : Ranked) : Type 0 where
    pub one : Record
    pub read : record_read l.shape secret replies (bucket_of placed rank) x.document ≡ Ok one
    pub is : IsRecordOf documents l x one

  record AreRead (rank : ℕ) (xs : List Ranked) : Type 0 where
    pub all : List Record
    pub read : records_read l.shape secret replies placed rank xs ≡ Ok all
    pub are : AreRecordsOf documents l xs all

  each_read : (rank : ℕ) (xs : List Ranked) → ((k n : ℕ) → n ≡ rank + k → k < length xs → IsReadAt n (get_or xs k no_hit)) → AreRead rank xs
  each_read rank [] each = record { all = []; read = refl; are = tt }
  each_read rank (x ∷ xs) each =
      let first = each 0 rank (omega arith) (omega arith) in
      let others = each_read (rank + 1) xs (λ k n e u. each (suc k) n (omega arith) (omega arith)) in
      record {
        all = first.one ∷ others.all;
        read = ap (λ (o : Result Record SearchFault). o >>= (λ r. records_read l.shape secret replies placed (rank + 1) xs >>= (λ rs. Ok (r ∷ rs)))) first.read
            ∙ ap (λ (o : Result (List Record) SearchFault). o >>= (λ rs. Ok (first.one ∷ rs))) others.read;
        are = (first.is, others.are);
      }

-- ---- over honest exchanges

itself : (n : ℕ) → eqb n n ≡ true
itself n = grind (arith, nat_tests)

abbrev pub nil : Document
nil = record { title = []; text = [] }

module _ {documents : List Document} {settings : Settings} {l : Parts} {held : Option (List ℕ)} {r : Search} {es : List Exchange} {result : Result Found SearchFault} {left : Stream}
    (h : IsHonestSearch documents settings l held r es result left) (hits : List Ranked) (ranked : ReadsHits r es l.shape l.terms hits)
    (placed : List (Option ℕ)) (p : IsPlacement (choices_of l.shape hits) (bucket_count l.shape.hits) placed)
    (replies : List Ciphertext) (a : Answered es l.shape.degree (bucket_count l.shape.hits * record_chunks l.shape.degree) Meta replies) where
  pub rows_are : h.asks.rows ≡ rows_asked l.shape hits placed
  rows_are = h.asks.placed_rows (made_within h _ _ Meta replies a) hits placed ranked p

  pub rows_long : length h.asks.rows ≡ bucket_count l.shape.hits
  rows_long = ap length rows_are ∙ length-map-range_with_len (λ (b : ℕ). row_asked l.shape hits (get_or placed b None) b) 0 (bucket_count l.shape.hits)

  pub queries_spelled : SpellsCiphers l.shape.degree (bucket_count l.shape.hits) h.asks.asked.records (ciphers_bytes h.asks.asked.records)
  queries_spelled =
      subst (λ (k : ℕ). SpellsCiphers l.shape.degree k h.asks.asked.records (ciphers_bytes h.asks.asked.records)) rows_long
      (records_spelled l.shape (has h) (has_room h) (numbers_of l.terms (distinct r.query)) h.asks.rows h.asks.bin r.stream h.asks.asked h.asks.rest h.asks.drawn)

  -- a row that is asked is opened
  row_opened : (bucket row : ℕ) → bucket < bucket_count l.shape.hits → get_or h.asks.rows bucket 0 ≡ row → row < l.shape.rows
      → opened_bytes Meta bucket (opened_reply (secret_draw l.shape.degree r.stream).0 (bucket_replies l.shape replies bucket)) ≡ Ok (row_bytes (bucket_table l bucket) row)
  row_opened bucket row b is within =
      let secret = (secret_draw l.shape.degree r.stream).0 in
      let asks : AsksFor l.shape.degree secret (ciphertext_at h.asks.asked.records bucket) l.shape.rows row =
      records_asked l.shape (has h) (has_room h) (numbers_of l.terms (distinct r.query)) h.asks.rows h.asks.bin r.stream h.asks.asked h.asks.rest h.asks.drawn bucket row (omega (arith, b, rows_long)) is within in
      let payload : IsPayload (row_bytes (bucket_table l bucket) row) (opened_reply secret (bucket_replies l.shape replies bucket)) =
      record_round l secret h.asks.asked.keys (can h) (keys_bytes h.asks.asked.keys) (spelled h) h.asks.asked.records (ciphers_bytes h.asks.asked.records) queries_spelled
      a.body (round h _ _ Meta replies a 1 (ciphers_bytes h.asks.asked.records) refl refl) replies a.spelled bucket row b asks in
      opened-ok Meta bucket (opened_reply secret (bucket_replies l.shape replies bucket)) (row_bytes (bucket_table l bucket) row) payload

  one_read : (rank : ℕ) → rank < length hits → IsReadAt documents l (secret_draw l.shape.degree r.stream).0 replies placed rank (get_or hits rank no_hit)
  unfolding record_read
  one_read rank within =
      let secret = (secret_draw l.shape.degree r.stream).0 in
      let number = document_at hits rank in
      let bucket = bucket_of placed rank in
      let b : bucket < bucket_count l.shape.hits = bucket_within l.shape hits placed p rank within in
      let inside : number < length documents = hits_within h hits ranked rank no_hit within in
      let document = get_or documents number nil in
      let is : slice_get documents number ≡ Some document = slice_get-get_or documents number nil inside in
      let shown : ShowsDocument l bucket number document = shows_document documents settings l h.library bucket number document b is (bucket_lists l.shape hits placed p rank within) in
      let row = document_row l.shape bucket number in
      let start = document_start l.shape bucket number in
      let asked : get_or h.asks.rows bucket 0 ≡ row = ap (λ (rows : List ℕ). get_or rows bucket 0) rows_are ∙ row_is l.shape hits placed p rank within in
      let one : Record = record { document = number; place = shown.place; title = document.title } in
      let good : checked l.shape number (Ok one) ≡ Ok one = (λ t. cond (itself number t) (cond (shown.within t) (Ok one) (Err (BadPlace number))) (Err (WrongRecord number number))) in
      record {
        one = one;
        read =
            ap (λ (o : Result (List ℕ) SearchFault). o >>= (λ bytes. checked l.shape number (record_of (take 256 (drop start bytes))))) (row_opened bucket row b asked shown.row)
            ∙ ap (checked l.shape number) shown.read ∙ good;
        is = record { document = document; is = is; bucket = bucket; shown = shown; number = refl; title = refl; place = refl };
      }

  all_read : AreRead documents l (secret_draw l.shape.degree r.stream).0 replies placed 0 hits
  all_read =
      each_read documents l (secret_draw l.shape.degree r.stream).0 replies placed 0 hits
      (λ k n e u. let same : k ≡ n = omega arith in subst (λ (m : ℕ). IsReadAt documents l (secret_draw l.shape.degree r.stream).0 replies placed m (get_or hits k no_hit)) same (one_read k u))

-- the records that are read are those of the hits' documents
pub record AreRecords (documents : List Document) (l : Parts) (hits : List Ranked) (records : Result (List Record) SearchFault) : Type 0 where
  pub all : List Record
  pub is : records ≡ Ok all
  pub are : AreRecordsOf documents l hits all

pub records_plain : {documents : List Document} {settings : Settings} {l : Parts} {held : Option (List ℕ)} {r : Search} {es : List Exchange} {result : Result Found SearchFault} {left : Stream}
    → IsHonestSearch documents settings l held r es result left → (hits : List Ranked) (records : Result (List Record) SearchFault) → ReadsRecords r es l.shape l.terms hits records
    → AreRecords documents l hits records
records_plain h hits records read =
    let all = all_read h hits read.ranked read.placed read.placement read.replies read.gathered in
    record { all = all.all; is = read.are ∙ all.read; are = all.are }
