-- Over honest exchanges the picked document that is read is that of the plain answer.
use Rattle.std.proofs.Common.{◌≡◌, ℕ, ◌+◌, ◌-◌, ◌*◌, ◌<◌, refl, sym, ap, ◌∙◌, arith, Bool, true, false, cond, eqb, ◌&&◌, ℤ, List, take, drop, map, Option, Some, None, Result, Ok, option_map}
use Rattle.std.specs.Prelude.{slice_get, nat_lt, nat_le}
use Rattle.std.proofs.lemmas.Bool.{ltb-true}
use Rattle.std.proofs.lemmas.Option.{slice_get-map}
use Rattle.rand_core.specs.Stream.{Stream}
use Rattle.co_link.specs.declared.messages.Target.TheVariants.{Document as ForDocument}
use Rattle.co_link.specs.declared.messages.Exchange.{Exchange}
use Rattle.co_noise.specs.Shapes.{Numbers}
use Rattle.co_slots.specs.Payloads.{IsPayload}
use Rattle.co_bfv.specs.Ciphertexts.{Ciphertext}
use Rattle.co_bfv.specs.Totals.{ciphertext_at}
use Rattle.co_bfv.specs.Draws.{secret_draw}
use Rattle.co_text.specs.declared.found.Found.{Found}
use Rattle.co_text.specs.declared.found.Hit.{Hit}
use Rattle.co_text.specs.declared.ranks.Ranked.{Ranked}
use Rattle.co_text.specs.Terms.{distinct}
use Rattle.co_text.specs.Numbers.{numbers_of}
use Rattle.co_corpus.specs.declared.documents.Document.{Document}
use Rattle.co_tfidf.specs.Hits.{hit_of}
use Rattle.co_tfidf.specs.Found.{text_or_none, document_of, picked}
use Rattle.co_pack.specs.declared.packing.Place.{Place}
use Rattle.co_pack.specs.declared.records.Record.{Record}
use Rattle.co_pir.specs.Tables.{row_bytes}
use Rattle.co_pir.specs.Openings.{opened_reply}
use Rattle.co_wire.specs.Bodies.{keys_bytes, ciphers_bytes}
use Rattle.co_library.specs.declared.settings.Settings.{Settings}
use Rattle.co_library.specs.Libraries.{Parts}
use Rattle.co_rounds.specs.Serving.{bin_table}
use Rattle.co_rounds.specs.Recording.{AsksFor, is_within_bins}
use Rattle.co_rounds.proofs.Rounds.{document_round}
use Rattle.co_client.specs.declared.fault.SearchFault.{SearchFault}
use Rattle.co_client.specs.Causes.{Search, Answered, ReadsRecords, ReadsPicked}
use Rattle.co_client.specs.Records.{◌>>=◌, opened_bytes, text_read, picked_read, bin_asked}
use Rattle.co_client.proofs.Firsts.{opened-ok}
use Rattle.co_client.proofs.Fresh_queries.{document_spelled, document_asked}
use Rattle.co_client.proofs.Honest_rounds.{IsHonestSearch, has, has_room, spelled, can, made_within, round}
use Rattle.co_client.proofs.Plain_records.{IsRecordOf, AreRecordsOf, StandsAt, record_at, no_record_at}

both_true : (a b : Bool) → (a && b) ≡ true → a ≡ true
both_true true b e = refl
both_true false b e = absurd cc

-- a place in the bins is in one of them
pub bin_within : (s : Numbers) (p : Place) → is_within_bins s p ≡ true → p.bin < s.bins
bin_within s p e = ltb-true p.bin s.bins (both_true (nat_lt p.bin s.bins) (nat_le (p.offset + p.length) (s.chunks * (2 * s.degree))) e)

module _ {documents : List Document} {settings : Settings} {l : Parts} {held : Option (List ℕ)} {r : Search} {es : List Exchange} {result : Result Found SearchFault} {left : Stream}
    (h : IsHonestSearch documents settings l held r es result left) (hits : List Ranked) (records : List Record) (are : AreRecordsOf documents l hits records)
    (replies : List Ciphertext) (a : Answered es l.shape.degree l.shape.chunks ForDocument replies) where
  abbrev secret : List ℤ
  secret = (secret_draw l.shape.degree r.stream).0

  -- the bin that is asked is opened
  bin_opened : h.asks.bin < l.shape.bins → opened_bytes ForDocument 0 (opened_reply secret replies) ≡ Ok (row_bytes (bin_table l) h.asks.bin)
  bin_opened within =
      let query = ciphertext_at h.asks.asked.document 0 in
      let asks : AsksFor l.shape.degree secret query l.shape.bins h.asks.bin =
      document_asked l.shape (has h) (has_room h) (numbers_of l.terms (distinct r.query)) h.asks.rows h.asks.bin r.stream h.asks.asked h.asks.rest h.asks.drawn within in
      let payload : IsPayload (row_bytes (bin_table l) h.asks.bin) (opened_reply secret replies) =
      document_round l secret h.asks.asked.keys (can h) (keys_bytes h.asks.asked.keys) (spelled h) query (ciphers_bytes h.asks.asked.document)
      (document_spelled l.shape (has h) (has_room h) (numbers_of l.terms (distinct r.query)) h.asks.rows h.asks.bin r.stream h.asks.asked h.asks.rest h.asks.drawn)
      a.body (round h _ _ ForDocument replies a 2 (ciphers_bytes h.asks.asked.document) refl refl) replies a.spelled h.asks.bin asks in
      opened-ok ForDocument 0 (opened_reply secret replies) (row_bytes (bin_table l) h.asks.bin) payload

  -- the text at the place that a record names
  text_plain : (x : Ranked) (rec : Record) (of_hit : IsRecordOf documents l x rec) → h.asks.bin ≡ rec.place.bin → text_read secret replies rec.place ≡ Ok of_hit.document.text
  unfolding text_read
  text_plain x rec of_hit bin =
      let at : h.asks.bin ≡ of_hit.shown.place.bin = bin ∙ ap (λ (p : Place). p.bin) of_hit.place in
      let within : h.asks.bin < l.shape.bins = omega (arith, at, bin_within l.shape of_hit.shown.place of_hit.shown.within) in
      ap (λ (o : Result (List ℕ) SearchFault). o >>= (λ bytes. Ok (take rec.place.length (drop rec.place.offset bytes)))) (bin_opened within)
      ∙ (λ t. Ok (take (of_hit.place t).length (drop (of_hit.place t).offset (row_bytes (bin_table l) (at t)))))
      ∙ ap (λ (text : List ℕ). Ok text) of_hit.shown.text

  abbrev wanted : Option (ℕ × List ℕ) → Result (Option (ℕ × List ℕ)) SearchFault
  wanted o = Ok o

  -- of the record of a rank
  at_rank : (k : ℕ) (o : Option Record) → slice_get records k ≡ o → h.asks.bin ≡ bin_asked o → picked_read secret replies o ≡ wanted (document_of documents (slice_get (map (hit_of documents) hits) k))
  at_rank k None is bin =
      ap (λ (m : Option Hit). wanted (document_of documents m)) (sym (slice_get-map (hit_of documents) hits k ∙ ap (option_map (hit_of documents)) (no_record_at documents l hits records k are is)))
  at_rank k (Some rec) is bin =
      let s : StandsAt documents l hits k rec = record_at documents l hits records k rec are is in
      let hit : slice_get (map (hit_of documents) hits) k ≡ Some (hit_of documents s.hit) = slice_get-map (hit_of documents) hits k ∙ ap (option_map (hit_of documents)) s.at in
      ap (λ (o : Result (List ℕ) SearchFault). o >>= (λ text. Ok (Some (rec.document, text)))) (text_plain s.hit rec s.of_hit bin)
      ∙ ap (λ (n : ℕ). wanted (Some (n, s.of_hit.document.text))) s.of_hit.number
      ∙ ap (λ (m : Option Document). wanted (text_or_none s.hit.document m)) (sym s.of_hit.is)
      ∙ ap (λ (m : Option Hit). wanted (document_of documents m)) (sym hit)

  of_pick : (b : Bool) (k : ℕ) → h.asks.bin ≡ bin_asked (cond b None (slice_get records k))
      → picked_read secret replies (cond b None (slice_get records k)) ≡ wanted (cond b None (document_of documents (slice_get (map (hit_of documents) hits) k)))
  of_pick true k bin = refl
  of_pick false k bin = at_rank k (slice_get records k) refl bin

pub picked_plain : {documents : List Document} {settings : Settings} {l : Parts} {held : Option (List ℕ)} {r : Search} {es : List Exchange} {result : Result Found SearchFault} {left : Stream}
    → IsHonestSearch documents settings l held r es result left → (hits : List Ranked) (records : List Record) → ReadsRecords r es l.shape l.terms hits (Ok records) → AreRecordsOf documents l hits records
    → (document : Result (Option (ℕ × List ℕ)) SearchFault) → ReadsPicked r es l.shape hits records document → document ≡ Ok (picked documents r.pick (map (hit_of documents) hits))
picked_plain {r = r} h hits records read are document p =
    p.are ∙ of_pick h hits records are p.replies p.fetched (eqb r.pick 0) (r.pick - 1) (h.asks.picked_bin (made_within h _ _ ForDocument p.replies p.fetched) hits records read)
