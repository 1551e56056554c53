-- Where a search ends behind its scores, and what it tells there.
use Rattle.std.proofs.Common.{◌≡◌, ◌≢◌, ℕ, zero, suc, ◌*◌, ◌<◌, ◌≤◌, ◌-◌, mul_assoc, Bool, true, false, cond, eqb, refl, sym, ap, subst, ◌∙◌, arith, List, [], ◌∷◌, length, Option, Some, None, Result, Ok, Err}
use Rattle.std.specs.Prelude.{All, slice_get}
use Rattle.rand_core.specs.Stream.{Stream}
use Rattle.co_link.specs.Exchanges.{exchange_of}
use Rattle.co_link.specs.declared.messages.Target.{Target}
use Rattle.co_link.specs.declared.messages.Target.TheVariants as targets_of
use Rattle.co_link.specs.declared.messages.Reply.{Reply}
use Rattle.co_link.specs.declared.messages.Exchange.{Exchange}
use Rattle.co_noise.specs.Shapes.{Numbers, document_blocks}
use Rattle.co_bfv.specs.Ciphertexts.{Ciphertext}
use Rattle.co_bucket.specs.Lists.{bucket_count}
use Rattle.co_bucket.specs.Bytes.{record_chunks}
use Rattle.co_bucket.specs.Placement.{IsPlacement}
use Rattle.co_bucket.proofs.OneAnswer.{same_placement, refuses}
use Rattle.co_pack.specs.declared.records.Record.{Record}
use Rattle.co_text.specs.Terms.{distinct}
use Rattle.co_text.specs.Numbers.{unknown_in}
use Rattle.co_text.specs.declared.found.Found.{Found}
use Rattle.co_text.specs.declared.ranks.Ranked.{Ranked}
use Rattle.co_text.specs.Ranking.{ranking}
use Rattle.co_wire.specs.Bodies.{SpellsCiphers}
use Rattle.co_wire.specs.Lengths.{reply_size, reply_limit}
use Rattle.co_rounds.specs.Answers.{reply_with}
use Rattle.co_rounds.specs.Plans.{targets}
use Rattle.co_rounds.specs.Placing.{choices_of, rows_asked, IsUnplaced}
use Rattle.co_rounds.specs.Scoring.{scores_read}
use Rattle.co_client.specs.declared.fault.SearchFault.{SearchFault}
use Rattle.co_client.specs.declared.fault.SearchFault.TheVariants.{NoPlacement, OutOfMemory}
use Rattle.co_client.specs.Causes.{Search, ReadsHits, ReadsRecords, ReadsPicked, HasBadRecord, HasBadText, secret_of}
use Rattle.co_client.specs.Faults.{is_want}
use Rattle.co_client.proofs.Whole_replies.{IsWholeReply, spells_well, none-all, more-all}
use Rattle.co_client.specs.Telling.{Makes, Told}
use Rattle.co_client.specs.Placings.{ArePlaced, shown_of}
use Rattle.co_client.specs.Records.{records_read, picked_record, picked_read, bin_asked, hits_shown}
use Rattle.co_client.specs.Shown.{concluded}
use Rattle.co_client.specs.Rounds.{Comes, Ranks, RoundFails, LinkFails, keys_request, queries_request}
use Rattle.co_client.proofs.Exchanged.{in_front}
use Rattle.co_client.proofs.Placed.{free-rows}
use Rattle.co_client.proofs.Unique.{asked_for, hits-one, records-one}
use Rattle.co_client.proofs.Trails.{makes-one, score_request, record_request, bin_request, IsTrail, trail-whole, after_scores, after_all}
use Rattle.co_client.proofs.RecordFaults.{record-refusal, text-refusal}
use Rattle.co_client.proofs.Told.{AreRowsOf, early-rows, tells-here, tells-all, round-told}
use Rattle.co_client.proofs.Ends.{keys-whole, Begun, first_of, keys_of}

-- the scores are read, three exchanges are made, and this is left of the stream
pub record Scored (run : Search) (was now : Option (List Exchange)) (s : Numbers) (hits : List Ranked) (unknown : List (List ℕ)) (rest : Stream) : Type 0 where
  pub mid : Option (List Exchange)
  pub keywords : List ℕ
  pub begun : Begun run was mid s keywords unknown
  pub left : rest ≡ after_scores s begun.messages run.stream
  pub reply : List ℕ
  pub replies : List Ciphertext
  pub spelled : SpellsCiphers s.degree (document_blocks s) replies reply
  pub hits_are : hits ≡ ranking s.hits (scores_read s (secret_of run s) replies)
  pub makes : Makes was now (first_of begun.body ∷ keys_of s run.stream ∷ exchange_of (score_request s begun.messages run.stream) (reply_with 200 reply) ∷ [])

pub scored-of : (run : Search) (was mid next now : Option (List Exchange)) (s : Numbers) (keywords : List ℕ) (hits : List Ranked) (unknown : List (List ℕ)) (rest : Stream) (b : Begun run was mid s keywords unknown) → Comes mid next (keys_request s run.stream) (reply_with 200 [])
    → Ranks s (secret_of run s) next now (score_request s b.messages run.stream) hits → rest ≡ after_scores s b.messages run.stream → Scored run was now s hits unknown rest
scored-of run was mid next now s keywords hits unknown rest b came r left = record {
  mid = mid;
  keywords = keywords;
  begun = b;
  left = left;
  reply = r.body;
  replies = r.replies;
  spelled = r.spelled;
  hits_are = r.are;
  makes = makes-one was next now (first_of b.body ∷ keys_of s run.stream ∷ []) (score_request s b.messages run.stream) (reply_with 200 r.body)
      (makes-one was mid next (first_of b.body ∷ []) (keys_request s run.stream) (reply_with 200 []) b.makes came) r.comes;
}

three-good : (x y z : Exchange) → x.reply.status ≡ 200 → y.reply.status ≡ 200 → z.reply.status ≡ 200 → All (λ e. e.reply.status ≡ 200) (x ∷ y ∷ z ∷ [])
three-good x y z e f g zero d l = e
three-good x y z e f g (suc zero) d l = f
three-good x y z e f g (suc (suc zero)) d l = g
three-good x y z e f g (suc (suc (suc i))) d l = absurd (omega arith)

four-good : (x y z w : Exchange) → x.reply.status ≡ 200 → y.reply.status ≡ 200 → z.reply.status ≡ 200 → w.reply.status ≡ 200 → All (λ e. e.reply.status ≡ 200) (x ∷ y ∷ z ∷ w ∷ [])
four-good x y z w e f g h zero d l = e
four-good x y z w e f g h (suc i) d l = three-good y z w f g h i d (omega arith)

five-good : (x y z w v : Exchange) → x.reply.status ≡ 200 → y.reply.status ≡ 200 → z.reply.status ≡ 200 → w.reply.status ≡ 200 → v.reply.status ≡ 200 → All (λ e. e.reply.status ≡ 200) (x ∷ y ∷ z ∷ w ∷ v ∷ [])
five-good x y z w v e f g h k zero d l = e
five-good x y z w v e f g h k (suc i) d l = four-good y z w v f g h k i d (omega arith)

not_meta : targets_of.Meta ≢ targets_of.Public
not_meta e = subst (λ (t : Target). elim t as (λ _. Type 0) [ targets_of.Public ↦ ⊥ | targets_of.Keys ↦ Unit {0} | targets_of.Score ↦ Unit {0} | targets_of.Meta ↦ Unit {0} | targets_of.Document ↦ Unit {0} ]) e tt

not_document : targets_of.Document ≢ targets_of.Public
not_document e = subst (λ (t : Target). elim t as (λ _. Type 0) [ targets_of.Public ↦ ⊥ | targets_of.Keys ↦ Unit {0} | targets_of.Score ↦ Unit {0} | targets_of.Meta ↦ Unit {0} | targets_of.Document ↦ Unit {0} ]) e tt

no_err : {A : Type 0} {x : A} (fault : SearchFault) → Ok x ≡ Err fault → ⊥
no_err {A} fault e = subst (λ (r : Result A SearchFault). elim r as (λ _. Type 0) [ Ok y ↦ Unit {0} | Err f ↦ ⊥ ]) e tt

abbrev value_or : {A : Type 0} → Result A SearchFault → A → A
value_or (Ok x) d = x
value_or (Err e) d = d

ok-value : {A : Type 0} {x y : A} → ◌≡◌ {A = Result A SearchFault} (Ok x) (Ok y) → x ≡ y
ok-value {A} {x} e = ap (λ r. value_or r x) e

-- ---- replies that are whole

third-whole : (s : Numbers) (ms : List (List ℕ)) (stream : Stream) (body : List ℕ) (cs : List Ciphertext) → SpellsCiphers s.degree (document_blocks s) cs body → IsWholeReply s (exchange_of (score_request s ms stream) (reply_with 200 body))
unfolding queries_request
third-whole s ms stream body cs h place = spells_well s.degree (document_blocks s) (reply_size s targets_of.Score) body place (record { ciphers = cs; spelled = h }) refl

fourth-whole : (s : Numbers) (ms : List (List ℕ)) (rows : List ℕ) (stream : Stream) (body : List ℕ) (cs : List Ciphertext) → SpellsCiphers s.degree (bucket_count s.hits * record_chunks s.degree) cs body
    → IsWholeReply s (exchange_of (record_request s ms rows stream) (reply_with 200 body))
unfolding queries_request
fourth-whole s ms rows stream body cs h place =
    spells_well s.degree (bucket_count s.hits * record_chunks s.degree) (reply_size s targets_of.Meta) body place (record { ciphers = cs; spelled = h }) (sym (mul_assoc (bucket_count s.hits) (record_chunks s.degree) (28 * s.degree)))

fifth-whole : (s : Numbers) (ms : List (List ℕ)) (rows : List ℕ) (bin : ℕ) (stream : Stream) (body : List ℕ) (cs : List Ciphertext) → SpellsCiphers s.degree s.chunks cs body → IsWholeReply s (exchange_of (bin_request s ms rows bin stream) (reply_with 200 body))
unfolding queries_request
fifth-whole s ms rows bin stream body cs h place = spells_well s.degree s.chunks (reply_size s targets_of.Document) body place (record { ciphers = cs; spelled = h }) refl

two-whole : {run : Search} {was now : Option (List Exchange)} {hits : List Ranked} {unknown : List (List ℕ)} {rest : Stream} (s : Numbers) (b : Scored run was now s hits unknown rest)
    → All (IsWholeReply s) (keys_of s run.stream ∷ exchange_of (score_request s b.begun.messages run.stream) (reply_with 200 b.reply) ∷ [])
two-whole {run} s b =
    let third = exchange_of (score_request s b.begun.messages run.stream) (reply_with 200 b.reply) in
    more-all (IsWholeReply s) (keys_of s run.stream) (third ∷ []) (keys-whole s run.stream) (more-all (IsWholeReply s) third [] (third-whole s b.begun.messages run.stream b.reply b.replies b.spelled) (none-all (IsWholeReply s)))

-- ---- the rows and the bin that are asked

-- rows and bin by the buckets and the witness, where the hits are known
rows-of : (run : Search) (es : List Exchange) (s : Numbers) (ts : List (List ℕ)) (hits : List Ranked) (placed : List (Option ℕ)) (refused : Option (List ℕ × List ℕ)) (rows : List ℕ) (bin : ℕ) → ArePlaced s hits placed refused → rows ≡ rows_asked s hits placed
    → ((others : List Ranked) → ReadsHits run es s ts others → hits ≡ others)
    → (4 < length es → refused ≡ None → (others : List Ranked) (records : List Record) → ReadsRecords run es s ts others (Ok records) → bin ≡ bin_asked (picked_record records run.pick))
    → (4 < length es → (witness : List ℕ × List ℕ) → refused ≡ Some witness → bin ≡ 0) → AreRowsOf run es s ts rows bin
rows-of run es s ts hits placed None rows bin h are only picked unplaced = record {
  placed_rows = λ u others p r pl.
      let e = only others r in
      let same = same_placement (choices_of s hits) (bucket_count s.hits) placed p h (subst (λ (hs : List Ranked). IsPlacement (choices_of s hs) (bucket_count s.hits) p) (sym e) pl) in
      are ∙ (λ t. rows_asked s (e t) (same t));
  unplaced_rows = λ u others d b r un. absurd (placed_or_not others d b r un);
  picked_bin = λ u. picked u refl;
  unplaced_bin = λ u others d b r un. absurd (placed_or_not others d b r un);
}
  where
    placed_or_not : (others : List Ranked) (d b : List ℕ) → ReadsHits run es s ts others → IsUnplaced s others d b → ⊥
    placed_or_not others d b r un =
        let e = only others r in
        let there : IsPlacement (choices_of s others) (bucket_count s.hits) placed = subst (λ (hs : List Ranked). IsPlacement (choices_of s hs) (bucket_count s.hits) placed) e h in
        refuses (choices_of s others) un.ranks b there.choices un.witness there.is_least.assigns
rows-of run es s ts hits placed (Some witness) rows bin h are only picked unplaced = record {
  placed_rows = λ u others p r pl. absurd (none_placed others p r pl);
  unplaced_rows = λ u others d b r un. are ∙ free-rows s hits others placed h.1;
  picked_bin = λ u others records r. absurd (none_placed others r.placed r.ranked r.placement);
  unplaced_bin = λ u others d b r un. unplaced u witness refl;
}
  where
    none_placed : (others : List Ranked) (p : List (Option ℕ)) → ReadsHits run es s ts others → IsPlacement (choices_of s others) (bucket_count s.hits) p → ⊥
    none_placed others p r pl =
        let e = only others r in
        let un : IsUnplaced s others witness.0 witness.1 = subst (λ (hs : List Ranked). IsUnplaced s hs witness.0 witness.1) e h.0 in
        refuses (choices_of s others) un.ranks witness.1 pl.choices un.witness pl.is_least.assigns

-- exchanges in the order of the plan
module _ (run : Search) (was : Option (List Exchange)) (now : Option (List Exchange)) (s : Numbers) (hits : List Ranked) (unknown : List (List ℕ)) (rest : Stream) (b : Scored run was now s hits unknown rest) (placed : List (Option ℕ)) (refused : Option (List ℕ × List ℕ)) (rows : List ℕ) (are_placed : ArePlaced s hits placed refused)
    (rows_are : rows ≡ rows_asked s hits placed) (long : length rows ≡ bucket_count s.hits) where
  abbrev third : Exchange
  third = exchange_of (score_request s b.begun.messages run.stream) (reply_with 200 b.reply)

  abbrev fourth : Reply → Exchange
  fourth reply = exchange_of (record_request s b.begun.messages rows run.stream) reply

  only-four : (reply : Reply) (others : List Ranked) → ReadsHits run (first_of b.begun.body ∷ keys_of s run.stream ∷ third ∷ fourth reply ∷ []) s b.begun.terms others → hits ≡ others
  unfolding keys_request queries_request
  only-four reply = hits-one run (first_of b.begun.body ∷ keys_of s run.stream ∷ third ∷ fourth reply ∷ []) s b.begun.terms (score_request s b.begun.messages run.stream) b.reply b.replies hits (λ k t h. in_front 4 targets k t h) refl refl b.spelled b.hits_are

  rows-four : (reply : Reply) (bin : ℕ) → AreRowsOf run (first_of b.begun.body ∷ keys_of s run.stream ∷ third ∷ fourth reply ∷ []) s b.begun.terms rows bin
  rows-four reply bin = rows-of run (first_of b.begun.body ∷ keys_of s run.stream ∷ third ∷ fourth reply ∷ []) s b.begun.terms hits placed refused rows bin are_placed rows_are (only-four reply) (λ u. absurd (omega arith)) (λ u. absurd (omega arith))

  -- what the witness tells
  unplaced : (witness : List ℕ × List ℕ) → refused ≡ Some witness → IsUnplaced s hits witness.0 witness.1
  unplaced witness is = (subst (λ (x : Option (List ℕ × List ℕ)). ArePlaced s hits placed x) is are_placed).0

  -- the round of the records gives nothing
  pub records-told : (later : Option (List Exchange)) (before : ℕ) (fault : SearchFault) (left : Stream) → RoundFails (reply_size s targets_of.Meta) now later (record_request s b.begun.messages rows run.stream) fault
      → LinkFails {T = Found} before run.now run.last_failed (record { target = targets_of.Meta; limit = reply_limit s targets_of.Meta }) (Err fault) → run.before ≤ before → Told run was later (Err fault) left
  unfolding queries_request
  records-told later before fault left h l early =
      round-told run s b.begun.terms b.begun.messages (first_of b.begun.body) rows 0 b.begun.few b.begun.read b.begun.passes b.begun.are long (keys_of s run.stream ∷ third ∷ []) (record { requests = refl })
      (early-rows run (first_of b.begun.body ∷ keys_of s run.stream ∷ third ∷ []) s b.begun.terms rows 0 (omega arith)) (three-good (first_of b.begun.body) (keys_of s run.stream) third refl refl refl) (two-whole s b)
      (record_request s b.begun.messages rows run.stream) (reply_size s targets_of.Meta) was now later before left (λ reply. record { requests = refl }) (λ reply. rows-four reply 0)
      refl not_meta refl b.makes early (λ u. absurd (omega arith)) (λ reply u. absurd (omega arith)) fault h l

  -- ---- the records are there, and four exchanges are made

  module _ (later : Option (List Exchange)) (reply4 : List ℕ) (replies4 : List Ciphertext) (came4 : Comes now later (record_request s b.begun.messages rows run.stream) (reply_with 200 reply4))
      (spelled4 : SpellsCiphers s.degree (bucket_count s.hits * record_chunks s.degree) replies4 reply4) where
    abbrev fourth_of : Exchange
    fourth_of = fourth (reply_with 200 reply4)

    makes-four : Makes was later (first_of b.begun.body ∷ keys_of s run.stream ∷ third ∷ fourth_of ∷ [])
    makes-four = makes-one was now later (first_of b.begun.body ∷ keys_of s run.stream ∷ third ∷ []) (record_request s b.begun.messages rows run.stream) (reply_with 200 reply4) b.makes came4

    three-whole : All (IsWholeReply s) (keys_of s run.stream ∷ third ∷ fourth_of ∷ [])
    three-whole =
        more-all (IsWholeReply s) (keys_of s run.stream) (third ∷ fourth_of ∷ []) (keys-whole s run.stream)
        (more-all (IsWholeReply s) third (fourth_of ∷ []) (third-whole s b.begun.messages run.stream b.reply b.replies b.spelled)
        (more-all (IsWholeReply s) fourth_of [] (fourth-whole s b.begun.messages rows run.stream reply4 replies4 spelled4) (none-all (IsWholeReply s))))

    reads-hits : (others : List Exchange) → ReadsHits run (first_of b.begun.body ∷ keys_of s run.stream ∷ third ∷ others) s b.begun.terms hits
    unfolding queries_request
    reads-hits others = record {
      published = record { first = first_of b.begun.body; others = keys_of s run.stream ∷ third ∷ others; are = refl; read = b.begun.read };
      passes = b.begun.passes;
      replies = b.replies;
      scored = record { number = 2; request = score_request s b.begun.messages run.stream; body = b.reply; is = refl; target_is = refl; spelled = b.spelled };
      are = b.hits_are;
    }

    reads-records : (others : List Exchange) (records : Result (List Record) SearchFault) → refused ≡ None → records_read s (secret_of run s) replies4 placed 0 (shown_of refused hits) ≡ records
        → ReadsRecords run (first_of b.begun.body ∷ keys_of s run.stream ∷ third ∷ fourth_of ∷ others) s b.begun.terms hits records
    unfolding queries_request
    reads-records others records is e = record {
      ranked = reads-hits (fourth_of ∷ others);
      placed = placed;
      placement = subst (λ (x : Option (List ℕ × List ℕ)). ArePlaced s hits placed x) is are_placed;
      replies = replies4;
      gathered = record { number = 3; request = record_request s b.begun.messages rows run.stream; body = reply4; is = refl; target_is = refl; spelled = spelled4 };
      are = sym e ∙ ap (λ (x : Option (List ℕ × List ℕ)). records_read s (secret_of run s) replies4 placed 0 (shown_of x hits)) is;
    }

    -- a record is refused
    pub record-told : (fault : SearchFault) (left : Stream) → (is_want fault ≡ false → records_read s (secret_of run s) replies4 placed 0 (shown_of refused hits) ≡ Err fault) → Told run was later (Err fault) left
    record-told fault left h =
        let no = record-refusal run (first_of b.begun.body ∷ keys_of s run.stream ∷ third ∷ fourth_of ∷ []) s (secret_of run s) replies4 placed (shown_of refused hits) fault h (λ e. bad refused refl e) in
        record {
          exchanges = first_of b.begun.body ∷ keys_of s run.stream ∷ third ∷ fourth_of ∷ [];
          makes = makes-four;
          tells = tells-here run s b.begun.terms b.begun.messages (first_of b.begun.body) rows 0 b.begun.few b.begun.read b.begun.passes b.begun.are long (keys_of s run.stream ∷ third ∷ fourth_of ∷ []) (record { requests = refl }) (rows-four (reply_with 200 reply4) 0)
              (four-good (first_of b.begun.body) (keys_of s run.stream) third fourth_of refl refl refl refl) three-whole (Err fault) left no.open_end tt no.cause (λ u. absurd (omega (arith, u, no.begun_is 4)));
        }
      where
        bad : (x : Option (List ℕ × List ℕ)) → refused ≡ x → records_read s (secret_of run s) replies4 placed 0 (shown_of refused hits) ≡ Err fault → HasBadRecord run (first_of b.begun.body ∷ keys_of s run.stream ∷ third ∷ fourth_of ∷ []) fault
        bad None is e = record { shape = s; terms = b.begun.terms; hits = hits; read = reads-records [] (Err fault) is e }
        bad (Some witness) is e =
            absurd (no_err fault (ap (λ (x : Option (List ℕ × List ℕ)). records_read s (secret_of run s) replies4 placed 0 (shown_of x hits)) (sym is) ∙ e))

    -- ---- the records are read

    module _ (records : List Record) (found : records_read s (secret_of run s) replies4 placed 0 (shown_of refused hits) ≡ Ok records) where
      abbrev bin : ℕ
      bin = bin_asked (picked_record records run.pick)

      abbrev fifth : Reply → Exchange
      fifth reply = exchange_of (bin_request s b.begun.messages rows bin run.stream) reply

      only-five : (reply : Reply) (others : List Ranked) → ReadsHits run (first_of b.begun.body ∷ keys_of s run.stream ∷ third ∷ fourth_of ∷ fifth reply ∷ []) s b.begun.terms others → hits ≡ others
      unfolding keys_request queries_request
      only-five reply = hits-one run (first_of b.begun.body ∷ keys_of s run.stream ∷ third ∷ fourth_of ∷ fifth reply ∷ []) s b.begun.terms (score_request s b.begun.messages run.stream) b.reply b.replies hits (λ k t h. in_front 5 targets k t h) refl refl b.spelled b.hits_are

      none-picked : (witness : List ℕ × List ℕ) → refused ≡ Some witness → bin ≡ 0
      none-picked witness is =
          let none : records ≡ [] = ok-value (sym found ∙ ap (λ (y : Option (List ℕ × List ℕ)). records_read s (secret_of run s) replies4 placed 0 (shown_of y hits)) is) in
          ap (λ (rs : List Record). bin_asked (picked_record rs run.pick)) none ∙ step (eqb run.pick 0)
        where
          step : (t : Bool) → bin_asked (cond t None (slice_get {X = Record} [] (run.pick - 1))) ≡ 0
          step true = refl
          step false = refl

      rows-five : (reply : Reply) → AreRowsOf run (first_of b.begun.body ∷ keys_of s run.stream ∷ third ∷ fourth_of ∷ fifth reply ∷ []) s b.begun.terms rows bin
      unfolding keys_request queries_request
      rows-five reply =
          let es = first_of b.begun.body ∷ keys_of s run.stream ∷ third ∷ fourth_of ∷ fifth reply ∷ [] in
          rows-of run es s b.begun.terms hits placed refused rows bin are_placed rows_are (only-five reply)
          (λ u is others recs r.
          let one = records-one run es s b.begun.terms (record_request s b.begun.messages rows run.stream) reply4 replies4 hits placed (Ok records) (λ k t h. in_front 5 targets k t h) refl refl spelled4 (subst (λ (x : Option (List ℕ × List ℕ)). ArePlaced s hits placed x) is are_placed)
          (sym found ∙ ap (λ (x : Option (List ℕ × List ℕ)). records_read s (secret_of run s) replies4 placed 0 (shown_of x hits)) is) (only-five reply) others (Ok recs) r in
          ap (λ (rs : List Record). bin_asked (picked_record rs run.pick)) (ok-value one))
          (λ u witness is. none-picked witness is)

      -- the records have no fault
      no-fault : (es : List Exchange) → ((k : ℕ) (t : Target) → slice_get (asked_for es) k ≡ Some t → slice_get targets k ≡ Some t) → slice_get es 3 ≡ Some fourth_of → ((others : List Ranked) → ReadsHits run es s b.begun.terms others → hits ≡ others)
          → (others : List Ranked) (fault : SearchFault) → ReadsRecords run es s b.begun.terms others (Err fault) → ⊥
      unfolding queries_request
      no-fault es order at only others fault r = step refused refl
        where
          step : (x : Option (List ℕ × List ℕ)) → refused ≡ x → ⊥
          step None is =
              no_err fault
              (records-one run es s b.begun.terms (record_request s b.begun.messages rows run.stream) reply4 replies4 hits placed (Ok records) order at refl spelled4 (subst (λ (x : Option (List ℕ × List ℕ)). ArePlaced s hits placed x) is are_placed)
              (sym found ∙ ap (λ (x : Option (List ℕ × List ℕ)). records_read s (secret_of run s) replies4 placed 0 (shown_of x hits)) is) only others (Err fault) r)
          step (Some witness) is =
              let e = only others r.ranked in
              let un : IsUnplaced s others witness.0 witness.1 = subst (λ (hs : List Ranked). IsUnplaced s hs witness.0 witness.1) e (unplaced witness is) in
              refuses (choices_of s others) un.ranks witness.1 r.placement.choices un.witness r.placement.is_least.assigns

      recorded-four : (others : List Ranked) (fault : SearchFault) → ReadsRecords run (first_of b.begun.body ∷ keys_of s run.stream ∷ third ∷ fourth_of ∷ []) s b.begun.terms others (Err fault) → ⊥
      unfolding keys_request queries_request
      recorded-four = no-fault (first_of b.begun.body ∷ keys_of s run.stream ∷ third ∷ fourth_of ∷ []) (λ k t h. in_front 4 targets k t h) refl (only-four (reply_with 200 reply4))

      recorded-five : (reply : Reply) (others : List Ranked) (fault : SearchFault) → ReadsRecords run (first_of b.begun.body ∷ keys_of s run.stream ∷ third ∷ fourth_of ∷ fifth reply ∷ []) s b.begun.terms others (Err fault) → ⊥
      unfolding keys_request queries_request
      recorded-five reply = no-fault (first_of b.begun.body ∷ keys_of s run.stream ∷ third ∷ fourth_of ∷ fifth reply ∷ []) (λ k t h. in_front 5 targets k t h) refl (only-five reply)

      trail-four : IsTrail s b.begun.messages rows bin run.stream (first_of b.begun.body ∷ keys_of s run.stream ∷ third ∷ fourth_of ∷ [])
      trail-four = record { requests = refl }

      -- the round of the document gives nothing
      pub document-told : (last : Option (List Exchange)) (before : ℕ) (fault : SearchFault) (left : Stream) → RoundFails (reply_size s targets_of.Document) later last (bin_request s b.begun.messages rows bin run.stream) fault
          → LinkFails {T = Found} before run.now run.last_failed (record { target = targets_of.Document; limit = reply_limit s targets_of.Document }) (Err fault) → run.before ≤ before → Told run was last (Err fault) left
      unfolding queries_request
      document-told last before fault left h l early =
          round-told run s b.begun.terms b.begun.messages (first_of b.begun.body) rows bin b.begun.few b.begun.read b.begun.passes b.begun.are long (keys_of s run.stream ∷ third ∷ fourth_of ∷ []) trail-four (rows-four (reply_with 200 reply4) bin)
          (four-good (first_of b.begun.body) (keys_of s run.stream) third fourth_of refl refl refl refl) three-whole (bin_request s b.begun.messages rows bin run.stream) (reply_size s targets_of.Document) was later last before left (λ reply. record { requests = refl }) rows-five
          refl not_document refl makes-four early (λ u. recorded-four) (λ reply u. recorded-five reply) fault h l

      -- ---- all five exchanges are made

      module _ (last : Option (List Exchange)) (reply5 : List ℕ) (replies5 : List Ciphertext) (came5 : Comes later last (bin_request s b.begun.messages rows bin run.stream) (reply_with 200 reply5)) (spelled5 : SpellsCiphers s.degree s.chunks replies5 reply5) where
        abbrev fifth_of : Exchange
        fifth_of = fifth (reply_with 200 reply5)

        abbrev all : List Exchange
        all = first_of b.begun.body ∷ keys_of s run.stream ∷ third ∷ fourth_of ∷ fifth_of ∷ []

        makes-five : Makes was last all
        makes-five = makes-one was later last (first_of b.begun.body ∷ keys_of s run.stream ∷ third ∷ fourth_of ∷ []) (bin_request s b.begun.messages rows bin run.stream) (reply_with 200 reply5) makes-four came5

        four-whole : All (IsWholeReply s) (keys_of s run.stream ∷ third ∷ fourth_of ∷ fifth_of ∷ [])
        four-whole =
            more-all (IsWholeReply s) (keys_of s run.stream) (third ∷ fourth_of ∷ fifth_of ∷ []) (keys-whole s run.stream)
            (more-all (IsWholeReply s) third (fourth_of ∷ fifth_of ∷ []) (third-whole s b.begun.messages run.stream b.reply b.replies b.spelled)
            (more-all (IsWholeReply s) fourth_of (fifth_of ∷ []) (fourth-whole s b.begun.messages rows run.stream reply4 replies4 spelled4)
            (more-all (IsWholeReply s) fifth_of [] (fifth-whole s b.begun.messages rows bin run.stream reply5 replies5 spelled5) (none-all (IsWholeReply s)))))

        good-five : All (λ e. e.reply.status ≡ 200) all
        good-five = five-good (first_of b.begun.body) (keys_of s run.stream) third fourth_of fifth_of refl refl refl refl refl

        reads-picked : (found5 : Result (Option (ℕ × List ℕ)) SearchFault) → picked_read (secret_of run s) replies5 (picked_record records run.pick) ≡ found5 → ReadsPicked run all s hits records found5
        unfolding queries_request
        reads-picked found5 e = record {
          replies = replies5;
          fetched = record { number = 4; request = bin_request s b.begun.messages rows bin run.stream; body = reply5; is = refl; target_is = refl; spelled = spelled5 };
          are = sym e;
        }

        -- the text is refused
        pub text-told : (fault : SearchFault) (left : Stream) → (is_want fault ≡ false → picked_read (secret_of run s) replies5 (picked_record records run.pick) ≡ Err fault) → Told run was last (Err fault) left
        text-told fault left h =
            let no = text-refusal run all (secret_of run s) replies5 (picked_record records run.pick) fault h (λ e. bad refused refl e) in
            record {
              exchanges = all;
              makes = makes-five;
              tells = tells-here run s b.begun.terms b.begun.messages (first_of b.begun.body) rows bin b.begun.few b.begun.read b.begun.passes b.begun.are long (keys_of s run.stream ∷ third ∷ fourth_of ∷ fifth_of ∷ []) (record { requests = refl }) (rows-five (reply_with 200 reply5)) good-five four-whole (Err fault) left no.open_end tt no.cause (λ u. recorded-five (reply_with 200 reply5));
            }
          where
            none : (records' : List Record) (t : Bool) → records' ≡ [] → cond t None (slice_get {X = Record} records' (run.pick - 1)) ≡ None
            none records' true e = refl
            none records' false e = ap (λ (rs : List Record). slice_get rs (run.pick - 1)) e

            bad : (x : Option (List ℕ × List ℕ)) → refused ≡ x → picked_read (secret_of run s) replies5 (picked_record records run.pick) ≡ Err fault → HasBadText run all fault
            bad None is e = record { shape = s; terms = b.begun.terms; hits = hits; records = records; read = reads-records (fifth_of ∷ []) (Ok records) is found; picked = reads-picked (Err fault) e }
            bad (Some witness) is e =
                let empty : records ≡ [] = ok-value (sym found ∙ ap (λ (y : Option (List ℕ × List ℕ)). records_read s (secret_of run s) replies4 placed 0 (shown_of y hits)) is) in
                absurd (no_err fault (ap (λ (o : Option Record). picked_read (secret_of run s) replies5 o) (sym (none records (eqb run.pick 0) empty)) ∙ e))

        -- memory is wanting for the answer
        pub answer-told : (left : Stream) → Told run was last (Err OutOfMemory) left
        answer-told left = record {
          exchanges = all;
          makes = makes-five;
          tells = tells-here run s b.begun.terms b.begun.messages (first_of b.begun.body) rows bin b.begun.few b.begun.read b.begun.passes b.begun.are long (keys_of s run.stream ∷ third ∷ fourth_of ∷ fifth_of ∷ []) (record { requests = refl }) (rows-five (reply_with 200 reply5)) good-five four-whole (Err OutOfMemory) left (λ a. a) tt tt (λ u. recorded-five (reply_with 200 reply5));
        }

        -- the answer is found
        pub found-told : (f : Found) (left : Stream) → refused ≡ None → f.hits ≡ hits_shown hits records → f.unknown ≡ unknown_in b.begun.terms (distinct run.query)
            → picked_read (secret_of run s) replies5 (picked_record records run.pick) ≡ Ok f.document → left ≡ after_all s b.begun.messages rows bin run.stream → Told run was last (Ok f) left
        found-told f left is shown unknown picked at_end = record {
          exchanges = all;
          makes = makes-five;
          tells = tells-all run s b.begun.terms b.begun.messages (first_of b.begun.body) rows bin b.begun.few b.begun.read b.begun.passes b.begun.are long (keys_of s run.stream ∷ third ∷ fourth_of ∷ fifth_of ∷ []) (record { requests = refl }) (rows-five (reply_with 200 reply5)) good-five four-whole (Ok f) left refl at_end
              (record { shape = s; terms = b.begun.terms; hits = hits; records = records; read = reads-records (fifth_of ∷ []) (Ok records) is found; shown = shown; unknown = unknown; picked = reads-picked (Ok f.document) picked }) tt (λ u. recorded-five (reply_with 200 reply5));
        }

        -- the hits can't be placed
        pub unplaced-told : (witness : List ℕ × List ℕ) (left : Stream) → refused ≡ Some witness → left ≡ after_all s b.begun.messages rows bin run.stream → Told run was last (Err (NoPlacement witness.0 witness.1)) left
        unplaced-told witness left is at_end = record {
          exchanges = all;
          makes = makes-five;
          tells = tells-all run s b.begun.terms b.begun.messages (first_of b.begun.body) rows bin b.begun.few b.begun.read b.begun.passes b.begun.are long (keys_of s run.stream ∷ third ∷ fourth_of ∷ fifth_of ∷ []) (record { requests = refl }) (rows-five (reply_with 200 reply5)) good-five four-whole (Err (NoPlacement witness.0 witness.1)) left refl at_end tt (
            record { shape = s; terms = b.begun.terms; hits = hits; ranked = reads-hits (fourth_of ∷ fifth_of ∷ []); unplaced = unplaced witness is },
            trail-whole s b.begun.terms b.begun.messages rows bin run.stream (first_of b.begun.body) (keys_of s run.stream ∷ third ∷ fourth_of ∷ fifth_of ∷ []) b.begun.are.count long b.begun.read refl (record { requests = refl }),
          ) (λ u. recorded-five (reply_with 200 reply5));
        }

        -- either of both
        pub concluded-told : (f : Found) (left : Stream) → f.hits ≡ hits_shown (shown_of refused hits) records → f.unknown ≡ unknown_in b.begun.terms (distinct run.query) → picked_read (secret_of run s) replies5 (picked_record records run.pick) ≡ Ok f.document
            → left ≡ after_all s b.begun.messages rows bin run.stream → Told run was last (concluded refused f) left
        concluded-told f left shown unknown picked at_end = step refused refl
          where
            step : (x : Option (List ℕ × List ℕ)) → refused ≡ x → Told run was last (concluded x f) left
            step None is = found-told f left is (shown ∙ ap (λ (y : Option (List ℕ × List ℕ)). hits_shown (shown_of y hits) records) is) unknown picked at_end
            step (Some witness) is = unplaced-told witness left is at_end
