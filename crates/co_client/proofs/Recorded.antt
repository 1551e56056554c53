-- The round of the records, by what its calls give.
use Rattle.std.proofs.Common.{◌≡◌, ◌⊎◌, ℕ, ◌*◌, ◌<◌, ◌≤◌, inl, inr, refl, sym, ap, subst, ◌∙◌, ⊎_elim, arith, List, [], length, map, Option, Some, None, Result, Ok, Err}
use Rattle.std.specs.Prelude.{slice_index_or, IfOk, IfErr, OnOk}
use Rattle.std.proofs.lemmas.Option.{none-some}
use Rattle.std.proofs.lemmas.List.{length-map}
use Rattle.rand_core.specs.Stream.{Stream}
use Rattle.co_link.specs.Exchanges.{LinkCall}
use Rattle.co_link.specs.declared.messages.Target.TheVariants.{Meta}
use Rattle.co_link.specs.declared.messages.Exchange.{Exchange}
use Rattle.co_noise.specs.Shapes.{Numbers}
use Rattle.co_bfv.specs.Ciphertexts.{Ciphertext}
use Rattle.co_bucket.specs.Lists.{bucket_count, candidates_of}
use Rattle.co_bucket.specs.Bytes.{record_chunks, record_row}
use Rattle.co_pack.specs.declared.records.Record.{Record}
use Rattle.co_text.specs.declared.ranks.Ranked as hits_of
use Rattle.co_wire.specs.Bodies.{SpellsCiphers}
use Rattle.co_wire.specs.Lengths.{reply_size}
use Rattle.co_rounds.specs.Placing.{rows_asked}
use Rattle.co_client.specs.declared.ranking.Ranked.{Ranked}
use Rattle.co_client.specs.declared.fault.SearchFault.{SearchFault}
use Rattle.co_client.specs.declared.fault.SearchFault.TheVariants.{Link, WrongRecord, BadPlace, NotByte, BadRecord}
use Rattle.co_client.specs.Faults.{IsReadAs}
use Rattle.co_client.specs.Gathered.{with_bins, records_request, ReadsReplies, RecordsFail}
use Rattle.co_client.specs.Placings.{ArePlaced, shown_of, HaveBuckets, places_asked}
use Rattle.co_client.specs.Records.{records_read}
use Rattle.co_client.specs.Rounds.{ReaderState, Gives, RoundFails, LinkFails}
use Rattle.co_client.proofs.Placed.{rows-are, free-rows}
use Rattle.co_client.proofs.Placed_hits.{bucket_within, placed_there}
use Rattle.co_client.proofs.RecordFaults.{IsFound, not_byte, wrong_record, bad_place, bad_record, want-or-not, read-fault, not-link}
use Rattle.co_client.proofs.Score_round.{memory-round}

abbrev pub Hits : Type 0
Hits = List hits_of.Ranked

abbrev pub Refused : Type 0
Refused = Option (List ℕ × List ℕ)

-- ---- placed hits

-- each hit that is shown has its bucket
pub have-buckets : (s : Numbers) (hits : Hits) (placed : List (Option ℕ)) (refused : Refused) → ArePlaced s hits placed refused → HaveBuckets s (shown_of refused hits) placed
have-buckets s hits placed None p = record { within = λ rank l. bucket_within s hits placed p rank l; there = λ rank l. placed_there s hits placed p rank l }
have-buckets s hits placed (Some witness) p = record { within = λ rank l. absurd (omega arith); there = λ rank l. absurd (omega arith) }

-- each rank that is placed is that of a hit that is shown
pub ranks-shown : (s : Numbers) (hits : Hits) (placed : List (Option ℕ)) (refused : Refused) → ArePlaced s hits placed refused → (b r : ℕ) → slice_index_or placed b None ≡ Some r → r < length (shown_of refused hits)
ranks-shown s hits placed None p b r e = subst (λ (k : ℕ). r < k) (length-map hits (λ (h : hits_of.Ranked). candidates_of s.salt (bucket_count s.hits) h.document)) (p.places.only b r e).0
ranks-shown s hits placed (Some witness) p b r e = absurd (none-some r (sym (p.1.free b) ∙ e))

-- the rows of the hits that are shown are those of all
rows-shown : (s : Numbers) (hits : Hits) (placed : List (Option ℕ)) (refused : Refused) → ArePlaced s hits placed refused → rows_asked s (shown_of refused hits) placed ≡ rows_asked s hits placed
rows-shown s hits placed None p = refl
rows-shown s hits placed (Some witness) p = free-rows s [] hits placed p.1 ∙ sym (free-rows s hits hits placed p.1)

pub asked-rows : (s : Numbers) (hits : Hits) (placed : List (Option ℕ)) (refused : Refused) (places : List ℕ) → ArePlaced s hits placed refused → places ≡ places_asked s (shown_of refused hits) placed → map (record_row s.degree) places ≡ rows_asked s hits placed
asked-rows s hits placed refused places p e =
    ap (λ (ps : List ℕ). map (record_row s.degree) ps) e ∙ rows-are s (shown_of refused hits) placed ∙ rows-shown s hits placed refused p

-- ---- the exchange

-- what is read of bytes
abbrev pub Read : ReaderState → Ranked → ℕ → List ℕ → Result (List Record) SearchFault → Type 0
Read reader ranked bins bytes result = (cs : List Ciphertext) (all : ℕ) → SpellsCiphers reader.shape.degree all cs bytes
    → IsReadAs result (records_read (with_bins reader.shape bins) reader.secret cs ranked.buckets 0 (shown_of ranked.refused ranked.hits))

module _ (reader : ReaderState) (ranked : Ranked) (bins : ℕ) (was now : Option (List Exchange)) (stream : Stream) where
  -- what no round finds is found in the records
  pub round-fails : (fault : SearchFault) → RoundFails (reply_size reader.shape Meta) was now (records_request reader ranked stream) fault → RecordsFail reader ranked bins was now stream fault
  round-fails (NotByte target reply place) h = absurd h
  round-fails (BadRecord document place) h = absurd h
  round-fails (WrongRecord wanted found) h = absurd h
  round-fails (BadPlace document) h = absurd h
  round-fails fault h = h

  -- a fault of the round, or of the records
  pub fails-by : (fault : SearchFault) → RecordsFail reader ranked bins was now stream fault → RoundFails (reply_size reader.shape Meta) was now (records_request reader ranked stream) fault ⊎ ReadsReplies reader ranked bins was now stream (Err fault)
  fails-by (NotByte target reply place) h = inr h
  fails-by (BadRecord document place) h = inr h
  fails-by (WrongRecord wanted found) h = inr h
  fails-by (BadPlace document) h = inr h
  fails-by fault h = inl h

  found-fails : {fault : SearchFault} → IsFound Meta fault → ReadsReplies reader ranked bins was now stream (Err fault) → RecordsFail reader ranked bins was now stream fault
  found-fails (not_byte reply place) h = h
  found-fails (wrong_record wanted found) h = h
  found-fails (bad_place document) h = h
  found-fails (bad_record document place) h = h

  module _ (body : List ℕ) (gives : Gives reader.shape.degree (bucket_count reader.shape.hits * record_chunks reader.shape.degree) was now (records_request reader ranked stream) body) where
    reads : (records : Result (List Record) SearchFault) → records_read (with_bins reader.shape bins) reader.secret gives.spelled.ciphers ranked.buckets 0 (shown_of ranked.refused ranked.hits) ≡ records → ReadsReplies reader ranked bins was now stream records
    reads records e = record { body = body; comes = gives.comes; replies = gives.spelled.ciphers; spelled = gives.spelled.spelled; are = sym e }

    -- what is read of the replies that came
    here : (result : Result (List Record) SearchFault) → Read reader ranked bins body result → IsReadAs result (records_read (with_bins reader.shape bins) reader.secret gives.spelled.ciphers ranked.buckets 0 (shown_of ranked.refused ranked.hits))
    here result h = h gives.spelled.ciphers (bucket_count reader.shape.hits * record_chunks reader.shape.degree) gives.spelled.spelled

    pub records-read : (result : Result (List Record) SearchFault) → Read reader ranked bins body result → IfOk result (λ records. ReadsReplies reader ranked bins was now stream (Ok records))
    records-read (Ok records) h = reads (Ok records) (here (Ok records) h)
    records-read (Err fault) h = tt

    pub records-fail : (result : Result (List Record) SearchFault) → Read reader ranked bins body result → IfErr result (RecordsFail reader ranked bins was now stream)
    records-fail (Ok records) h = tt
    records-fail (Err fault) h =
        ⊎_elim (λ e. subst (λ (f : SearchFault). RecordsFail reader ranked bins was now stream f) (sym e) (memory-round (reply_size reader.shape Meta) was now (records_request reader ranked stream) body gives.comes))
        (λ w.
        found-fails (read-fault (with_bins reader.shape bins) reader.secret gives.spelled.ciphers ranked.buckets (shown_of ranked.refused ranked.hits) fault (here (Err fault) h w)) (reads (Err fault) (here (Err fault) h w)))
        (want-or-not fault)

    -- no fault of the records is the link's
    pub link-fails : (before after : ℕ) (is : Option LinkCall) (call : LinkCall) (result : Result (List Record) SearchFault) → before ≤ after → Read reader ranked bins body result → LinkFails before after is call result
    link-fails before after is call result later h = record {
      later = later;
      failed = λ e.
          let found = here (Err Link) (subst (λ (r : Result (List Record) SearchFault). Read reader ranked bins body r) e h) refl in
          absurd (not-link (read-fault (with_bins reader.shape bins) reader.secret gives.spelled.ciphers ranked.buckets (shown_of ranked.refused ranked.hits) Link found));
    }

pub on-ok : {P : Type 0} (result : Result (List Record) SearchFault) → P → OnOk result P
on-ok (Ok records) p = p
on-ok (Err fault) p = tt
