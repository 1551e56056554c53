-- A search round by round, by what its calls give: what it tells where one of them gives nothing, and at its end.
use Rattle.std.proofs.Common.{◌≡◌, ℕ, ◌<◌, ◌≤◌, refl, sym, ap, subst, ◌∙◌, ⊎_elim, arith, Bool, true, false, cond, eqb, ◌-◌, List, [], length, Option, Some, None, Result, Ok, Err}
use Rattle.std.specs.Prelude.{All, slice_get}
use Rattle.rand_core.specs.Stream.{Stream}
use Rattle.co_link.specs.Exchanges.{LinkCall}
use Rattle.co_link.specs.declared.messages.Target.TheVariants as targets_of
use Rattle.co_link.specs.declared.messages.Request.{Request}
use Rattle.co_link.specs.declared.messages.Exchange.{Exchange}
use Rattle.co_noise.specs.Shapes.{Numbers}
use Rattle.co_bfv.specs.Ciphertexts.{Ciphertext}
use Rattle.co_bucket.specs.Lists.{bucket_count}
use Rattle.co_pack.specs.declared.records.Record.{Record}
use Rattle.co_text.specs.Terms.{distinct}
use Rattle.co_text.specs.Numbers.{numbers_of, unknown_in}
use Rattle.co_text.specs.declared.found.Found.{Found}
use Rattle.co_wire.specs.Bodies.{SpellsCiphers}
use Rattle.co_wire.specs.Lengths.{reply_size, reply_limit, most_public}
use Rattle.co_rounds.specs.Answers.{reply_with}
use Rattle.co_rounds.specs.Asked.{AreKeywordMessages}
use Rattle.co_rounds.specs.Placing.{rows_asked}
use Rattle.co_rounds.specs.Recording.{is_within_bins}
use Rattle.co_client.specs.declared.fault.SearchFault.{SearchFault}
use Rattle.co_client.specs.declared.publishing.Published.{Published}
use Rattle.co_client.specs.declared.ranking.Ranked.{Ranked}
use Rattle.co_client.specs.Causes.{Search, secret_of}
use Rattle.co_client.specs.Faults.{IsReadAs}
use Rattle.co_client.specs.Gathered.{with_bins, records_request, records_rest, ReadsReplies, RecordsFail}
use Rattle.co_client.specs.Telling.{Told}
use Rattle.co_client.specs.Published.{Consults, PublicFails}
use Rattle.co_client.specs.Placings.{ArePlaced, shown_of}
use Rattle.co_client.specs.Records.{◌>>=◌, records_read, picked_record, picked_read, bin_asked, hits_shown}
use Rattle.co_client.specs.Shown.{answer_of, answer_read}
use Rattle.co_client.specs.Rounds.{ReaderState, Comes, Ranks, Gives, RoundFails, LinkFails, keys_request, queries_request, queries_rest, record_messages, bin_messages}
use Rattle.co_client.proofs.Trails.{secret_at, after_keys, after_scores, after_records, after_all, score_request, record_request, bin_request}
use Rattle.co_client.proofs.Unanswered.{fails-as}
use Rattle.co_client.proofs.Placed.{rows-long}
use Rattle.co_client.proofs.Plain_text.{bin_within}
use Rattle.co_client.proofs.Whole_replies.{got-within}
use Rattle.co_client.proofs.Ends.{Begun, begun-of, public-told, keys-told, scores-told}
use Rattle.co_client.proofs.Finishes.{Scored, scored-of, records-told, record-told, document-told, text-told, answer-told, concluded-told}
use Rattle.co_client.proofs.RecordFaults.{want-or-not}
use Rattle.co_client.proofs.Recorded.{fails-by}

-- a failed link of one call, as that of a search
as-found : {T : Type 0} (before now : ℕ) (is : Option LinkCall) (call : LinkCall) (fault : SearchFault) → LinkFails {T = T} before now is call (Err fault) → LinkFails {T = Found} before now is call (Err fault)
as-found {T} before now is call fault h = fails-as {A = T} {B = Found} before now is call (Err fault) fault h refl

-- the bin of the picked record is one of the bins
pub picked-within : (s : Numbers) (records : List Record) (pick : ℕ) → 1 ≤ s.bins → All (λ r. is_within_bins s r.place ≡ true) records → bin_asked (picked_record records pick) < s.bins
picked-within s records pick some within = step (eqb pick 0)
  where
    there : (o : Option Record) → slice_get records (pick - 1) ≡ o → bin_asked o < s.bins
    there None e = omega arith
    there (Some r) e =
        bin_within s r.place (got-within (λ (x : Record). is_within_bins s x.place ≡ true) records (pick - 1) r within e)

    step : (b : Bool) → bin_asked (cond b None (slice_get records (pick - 1))) < s.bins
    step true = omega arith
    step false = there (slice_get records (pick - 1)) refl

module _ (run : Search) (was : Option (List Exchange)) where
  -- ---- the published numbers

  pub consult-told : {T : Type 0} (now : Option (List Exchange)) (found : List (List ℕ)) (fault : SearchFault) (left : Stream) → found ≡ distinct run.query → length found ≤ 16 → PublicFails was now fault
      → LinkFails {T = T} run.before run.now run.last_failed (record { target = targets_of.Public; limit = most_public }) (Err fault) → Told run was now (Err fault) left
  consult-told {T} now found fault left e few h f =
      let call : LinkCall = record { target = targets_of.Public; limit = most_public } in
      public-told run was now fault left (subst (λ (xs : List (List ℕ)). length xs ≤ 16) e few) h (as-found {T = T} run.before run.now run.last_failed call fault f)

  pub begins : (now : Option (List Exchange)) (found : List (List ℕ)) (p : Published) → found ≡ distinct run.query → length found ≤ 16 → Consults was now p → Begun run was now p.tested (numbers_of p.terms found) (unknown_in p.terms found)
  begins now found p e few c =
      subst (λ (xs : List (List ℕ)). Begun run was now p.tested (numbers_of p.terms xs) (unknown_in p.terms xs)) (sym e) (begun-of run was now p c (subst (λ (xs : List (List ℕ)). length xs ≤ 16) e few))

  -- ---- the keys

  pub start-told : {T : Type 0} (mid now : Option (List Exchange)) (s : Numbers) (keywords : List ℕ) (unknown : List (List ℕ)) (before : ℕ) (fault : SearchFault) (left : Stream) → Begun run was mid s keywords unknown
      → RoundFails 0 mid now (keys_request s run.stream) fault → LinkFails {T = T} before run.now run.last_failed (record { target = targets_of.Keys; limit = reply_limit s targets_of.Keys }) (Err fault) → run.before ≤ before → Told run was now (Err fault) left
  start-told {T} mid now s keywords unknown before fault left b h f early =
      let call : LinkCall = record { target = targets_of.Keys; limit = reply_limit s targets_of.Keys } in
      keys-told run was mid now s keywords unknown before fault left b h (as-found {T = T} before run.now run.last_failed call fault f) early

  -- the reader that the round of the keys gives
  abbrev pub reader_at : Numbers → ReaderState
  reader_at s = record { shape = s; secret = secret_at s run.stream }

  -- ---- the scores

  -- the hits are ranked and placed
  pub record HasRanked (now : Option (List Exchange)) (reader : ReaderState) (ranked : Ranked) (rest : Stream) : Type 0 where
    pub scored : Scored run was now reader.shape ranked.hits ranked.unknown rest
    pub secret : reader.secret ≡ secret_of run reader.shape
    pub few : length ranked.hits ≤ reader.shape.hits
    pub placed : ArePlaced reader.shape ranked.hits ranked.buckets ranked.refused

  module _ (mid next now : Option (List Exchange)) (s : Numbers) (keywords : List ℕ) (unknown : List (List ℕ)) (reader : ReaderState) (stream : Stream) (b : Begun run was mid s keywords unknown)
      (came : Comes mid next (keys_request s run.stream) (reply_with 200 [])) (reader_is : reader ≡ reader_at s) (stream_is : stream ≡ after_keys s run.stream) where
    their-messages : AreKeywordMessages s keywords b.messages
    their-messages = subst (λ (ks : List ℕ). AreKeywordMessages s ks b.messages) (sym b.keywords_are) b.are

    pub rank-told : {T : Type 0} (before : ℕ) (fault : SearchFault) (left : Stream)
        → ((messages : List (List ℕ)) → AreKeywordMessages reader.shape keywords messages → RoundFails (reply_size reader.shape targets_of.Score) next now (queries_request targets_of.Score reader.secret messages stream) fault)
        → LinkFails {T = T} before run.now run.last_failed (record { target = targets_of.Score; limit = reply_limit reader.shape targets_of.Score }) (Err fault) → run.before ≤ before → Told run was now (Err fault) left
    rank-told {T} before fault left h f early =
        let call : LinkCall = record { target = targets_of.Score; limit = reply_limit s targets_of.Score } in
        let at-reader : (messages : List (List ℕ)) → AreKeywordMessages s keywords messages → RoundFails (reply_size s targets_of.Score) next now (queries_request targets_of.Score (secret_at s run.stream) messages stream) fault =
        subst (λ (x : ReaderState). (messages : List (List ℕ)) → AreKeywordMessages x.shape keywords messages → RoundFails (reply_size x.shape targets_of.Score) next now (queries_request targets_of.Score x.secret messages stream) fault) reader_is h in
        let fails : RoundFails (reply_size s targets_of.Score) next now (score_request s b.messages run.stream) fault =
        subst (λ (x : Stream). RoundFails (reply_size s targets_of.Score) next now (queries_request targets_of.Score (secret_at s run.stream) b.messages x) fault) stream_is (at-reader b.messages their-messages) in
        let link : LinkFails {T = T} before run.now run.last_failed call (Err fault) =
        subst (λ (x : ReaderState). LinkFails {T = T} before run.now run.last_failed (record { target = targets_of.Score; limit = reply_limit x.shape targets_of.Score }) (Err fault)) reader_is f in
        scores-told run was mid next now s keywords unknown before fault left b came fails (as-found {T = T} before run.now run.last_failed call fault link) early

    pub ranks : (ranked : Ranked) (rest : Stream)
        → ((messages : List (List ℕ)) → AreKeywordMessages reader.shape keywords messages → Ranks reader.shape reader.secret next now (queries_request targets_of.Score reader.secret messages stream) ranked.hits)
        → ((messages : List (List ℕ)) → AreKeywordMessages reader.shape keywords messages → rest ≡ queries_rest reader.secret messages stream) → length ranked.hits ≤ reader.shape.hits → ranked.unknown ≡ unknown
        → ArePlaced reader.shape ranked.hits ranked.buckets ranked.refused → HasRanked now reader ranked rest
    ranks ranked rest h left few others placed =
        let shown : (messages : List (List ℕ)) → AreKeywordMessages s keywords messages → Ranks s (secret_at s run.stream) next now (queries_request targets_of.Score (secret_at s run.stream) messages stream) ranked.hits =
        subst (λ (x : ReaderState). (messages : List (List ℕ)) → AreKeywordMessages x.shape keywords messages → Ranks x.shape x.secret next now (queries_request targets_of.Score x.secret messages stream) ranked.hits) reader_is h in
        let here : Ranks s (secret_of run s) next now (score_request s b.messages run.stream) ranked.hits =
        subst (λ (x : Stream). Ranks s (secret_at s run.stream) next now (queries_request targets_of.Score (secret_at s run.stream) b.messages x) ranked.hits) stream_is (shown b.messages their-messages) in
        let leaves : (messages : List (List ℕ)) → AreKeywordMessages s keywords messages → rest ≡ queries_rest (secret_at s run.stream) messages stream =
        subst (λ (x : ReaderState). (messages : List (List ℕ)) → AreKeywordMessages x.shape keywords messages → rest ≡ queries_rest x.secret messages stream) reader_is left in
        let after : rest ≡ after_scores s b.messages run.stream = leaves b.messages their-messages ∙ ap (λ (x : Stream). queries_rest (secret_at s run.stream) b.messages x) stream_is in
        let scored : Scored run was now s ranked.hits ranked.unknown rest =
        subst (λ (us : List (List ℕ)). Scored run was now s ranked.hits us rest) (sym others) (scored-of run was mid next now s keywords ranked.hits unknown rest b came here after) in
        let few_here = subst (λ (x : ReaderState). length ranked.hits ≤ x.shape.hits) reader_is few in
        let placed_here = subst (λ (x : ReaderState). ArePlaced x.shape ranked.hits ranked.buckets ranked.refused) reader_is placed in
        subst (λ (x : ReaderState). HasRanked now x ranked rest) (sym reader_is) (record { scored = scored; secret = refl; few = few_here; placed = placed_here })

  -- ---- the records

  -- the records of the hits are read
  pub record HasRead (now : Option (List Exchange)) (reader : ReaderState) (ranked : Ranked) (records : List Record) (rest : Stream) : Type 0 where
    pub mid : Option (List Exchange)
    pub stream : Stream
    pub ranks : HasRanked mid reader ranked stream
    pub read : ReadsReplies reader ranked reader.shape.bins mid now stream (Ok records)
    pub left : rest ≡ records_rest reader ranked stream

  module _ (mid : Option (List Exchange)) (reader : ReaderState) (ranked : Ranked) (stream : Stream) (b : HasRanked mid reader ranked stream) where
    abbrev rows : List ℕ
    rows = rows_asked reader.shape ranked.hits ranked.buckets

    long : length (rows_asked reader.shape ranked.hits ranked.buckets) ≡ bucket_count reader.shape.hits
    long = rows-long reader.shape ranked.hits ranked.buckets

    pub same-request : records_request reader ranked stream ≡ record_request reader.shape b.scored.begun.messages (rows_asked reader.shape ranked.hits ranked.buckets) run.stream
    same-request = λ t. queries_request targets_of.Meta (b.secret t) (record_messages reader.shape rows) (b.scored.left t)

    pub same-records : (replies : List Ciphertext) → records_read (with_bins reader.shape reader.shape.bins) reader.secret replies ranked.buckets 0 (shown_of ranked.refused ranked.hits)
        ≡ records_read reader.shape (secret_of run reader.shape) replies ranked.buckets 0 (shown_of ranked.refused ranked.hits)
    same-records replies = λ t. records_read reader.shape (b.secret t) replies ranked.buckets 0 (shown_of ranked.refused ranked.hits)

    pub records-unread : {T : Type 0} (now : Option (List Exchange)) (bins before : ℕ) (fault : SearchFault) (left : Stream) → bins ≡ reader.shape.bins → RecordsFail reader ranked bins mid now stream fault
        → LinkFails {T = T} before run.now run.last_failed (record { target = targets_of.Meta; limit = reply_limit reader.shape targets_of.Meta }) (Err fault) → run.before ≤ before → Told run was now (Err fault) left
    records-unread {T} now bins before fault left e h f early =
        let call : LinkCall = record { target = targets_of.Meta; limit = reply_limit reader.shape targets_of.Meta } in
        ⊎_elim
        (λ round.
        records-told run was mid reader.shape ranked.hits ranked.unknown stream b.scored ranked.buckets ranked.refused rows b.placed refl long
        now before fault left (subst (λ (r : Request). RoundFails (reply_size reader.shape targets_of.Meta) mid now r fault) same-request round) (as-found {T = T} before run.now run.last_failed call fault f) early)
        (λ read.
        record-told run was mid reader.shape ranked.hits ranked.unknown stream b.scored ranked.buckets ranked.refused rows b.placed refl long now read.body read.replies
        (subst (λ (r : Request). Comes mid now r (reply_with 200 read.body)) same-request read.comes) read.spelled fault left (λ w. sym (same-records read.replies) ∙ sym read.are))
        (fails-by reader ranked reader.shape.bins mid now stream fault (subst (λ (k : ℕ). RecordsFail reader ranked k mid now stream fault) e h))

    pub has-read : (now : Option (List Exchange)) (bins : ℕ) (records : List Record) (rest : Stream) → bins ≡ reader.shape.bins → ReadsReplies reader ranked bins mid now stream (Ok records) → rest ≡ records_rest reader ranked stream
        → HasRead now reader ranked records rest
    has-read now bins records rest e r left = record { mid = mid; stream = stream; ranks = b; read = subst (λ (k : ℕ). ReadsReplies reader ranked k mid now stream (Ok records)) e r; left = left }

  module _ (now : Option (List Exchange)) (reader : ReaderState) (ranked : Ranked) (records : List Record) (rest : Stream) (g : HasRead now reader ranked records rest) where
    abbrev s : Numbers
    s = reader.shape

    abbrev ms : List (List ℕ)
    ms = g.ranks.scored.begun.messages

    abbrev all_rows : List ℕ
    all_rows = rows_asked reader.shape ranked.hits ranked.buckets

    abbrev bin : ℕ
    bin = bin_asked (picked_record records run.pick)

    all_long : length (rows_asked reader.shape ranked.hits ranked.buckets) ≡ bucket_count reader.shape.hits
    all_long = rows-long reader.shape ranked.hits ranked.buckets

    came : Comes g.mid now (record_request reader.shape g.ranks.scored.begun.messages (rows_asked reader.shape ranked.hits ranked.buckets) run.stream) (reply_with 200 g.read.body)
    came = subst (λ (r : Request). Comes g.mid now r (reply_with 200 g.read.body)) (same-request g.mid reader ranked g.stream g.ranks) g.read.comes

    found : records_read reader.shape (secret_of run reader.shape) g.read.replies ranked.buckets 0 (shown_of ranked.refused ranked.hits) ≡ Ok records
    found = sym (same-records g.mid reader ranked g.stream g.ranks g.read.replies) ∙ sym g.read.are

    same-bin : queries_request targets_of.Document reader.secret (bin_messages reader.shape bin) rest ≡ bin_request reader.shape ms all_rows bin run.stream
    same-bin =
        let left : rest ≡ after_records reader.shape ms all_rows run.stream = g.left ∙ (λ t. queries_rest (g.ranks.secret t) (record_messages reader.shape all_rows) (g.ranks.scored.left t)) in
        λ t. queries_request targets_of.Document (g.ranks.secret t) (bin_messages reader.shape bin) (left t)

    pub fetch-told : {T : Type 0} (last : Option (List Exchange)) (at : ℕ) (before : ℕ) (fault : SearchFault) (left : Stream) → at ≡ bin_asked (picked_record records run.pick)
        → RoundFails (reply_size reader.shape targets_of.Document) now last (queries_request targets_of.Document reader.secret (bin_messages reader.shape at) rest) fault
        → LinkFails {T = T} before run.now run.last_failed (record { target = targets_of.Document; limit = reply_limit reader.shape targets_of.Document }) (Err fault) → run.before ≤ before → Told run was last (Err fault) left
    fetch-told {T} last at before fault left e h f early =
        let call : LinkCall = record { target = targets_of.Document; limit = reply_limit s targets_of.Document } in
        let there = subst (λ (k : ℕ). RoundFails (reply_size s targets_of.Document) now last (queries_request targets_of.Document reader.secret (bin_messages s k) rest) fault) e h in
        document-told run was g.mid s ranked.hits ranked.unknown g.stream g.ranks.scored ranked.buckets ranked.refused all_rows g.ranks.placed refl all_long now g.read.body g.read.replies came g.read.spelled records found
        last before fault left (subst (λ (r : Request). RoundFails (reply_size s targets_of.Document) now last r fault) same-bin there) (as-found {T = T} before run.now run.last_failed call fault f) early

    -- ---- the document

    -- the bin came
    pub record HasFetched (last : Option (List Exchange)) (reply5 : List ℕ) (left : Stream) : Type 0 where
      pub replies : List Ciphertext
      pub came5 : Comes now last (bin_request reader.shape g.ranks.scored.begun.messages (rows_asked reader.shape ranked.hits ranked.buckets) (bin_asked (picked_record records run.pick)) run.stream) (reply_with 200 reply5)
      pub spelled : SpellsCiphers reader.shape.degree reader.shape.chunks replies reply5
      pub left_is : left ≡ after_all reader.shape g.ranks.scored.begun.messages (rows_asked reader.shape ranked.hits ranked.buckets) (bin_asked (picked_record records run.pick)) run.stream

    pub fetches : (last : Option (List Exchange)) (at : ℕ) (reply5 : List ℕ) (left : Stream) → at ≡ bin_asked (picked_record records run.pick)
        → Gives reader.shape.degree reader.shape.chunks now last (queries_request targets_of.Document reader.secret (bin_messages reader.shape at) rest) reply5 → left ≡ queries_rest reader.secret (bin_messages reader.shape at) rest → HasFetched last reply5 left
    fetches last at reply5 left e given leaves =
        let there = subst (λ (k : ℕ). Gives s.degree s.chunks now last (queries_request targets_of.Document reader.secret (bin_messages s k) rest) reply5) e given in
        let before : rest ≡ after_records reader.shape ms all_rows run.stream = g.left ∙ (λ t. queries_rest (g.ranks.secret t) (record_messages reader.shape all_rows) (g.ranks.scored.left t)) in
        record {
          replies = there.spelled.ciphers;
          came5 = subst (λ (r : Request). Comes now last r (reply_with 200 reply5)) same-bin there.comes;
          spelled = there.spelled.spelled;
          left_is = leaves ∙ (λ t. queries_rest (g.ranks.secret t) (bin_messages s (e t)) (before t));
        }

    module _ (last : Option (List Exchange)) (reply5 : List ℕ) (left : Stream) (f : HasFetched last reply5 left) where
      -- memory is wanting, or it ends as the records and the bin show
      ends-told : (result wanted : Result Found SearchFault) → IsReadAs result wanted → Told run was last wanted left → Told run was last result left
      ends-told (Ok answer) wanted h told = subst (λ (r : Result Found SearchFault). Told run was last r left) h told
      ends-told (Err fault) wanted h told =
          ⊎_elim
          (λ e.
          subst (λ (x : SearchFault). Told run was last (Err x) left) (sym e)
          (answer-told run was g.mid s ranked.hits ranked.unknown g.stream g.ranks.scored ranked.buckets ranked.refused all_rows g.ranks.placed refl all_long now g.read.body g.read.replies came g.read.spelled records found last reply5 f.replies f.came5 f.spelled left))
          (λ w. subst (λ (r : Result Found SearchFault). Told run was last r left) (h w) told) (want-or-not fault)

      pub shown-told : (body : List ℕ) (rs : List Record) (result : Result Found SearchFault) → body ≡ reply5 → rs ≡ records
          → ((cs : List Ciphertext) → SpellsCiphers reader.shape.degree reader.shape.chunks cs body → IsReadAs result (answer_read reader.secret cs ranked rs run.pick)) → Told run was last result left
      shown-told body rs result eb er h =
          let same : answer_read reader.secret f.replies ranked rs run.pick ≡ answer_read (secret_of run s) f.replies ranked records run.pick = λ t. answer_read (g.ranks.secret t) f.replies ranked (er t) run.pick in
          step (picked_read (secret_of run s) f.replies (picked_record records run.pick)) refl
          (subst (IsReadAs result) same (h f.replies (subst (λ (x : List ℕ). SpellsCiphers s.degree s.chunks f.replies x) (sym eb) f.spelled)))
        where
          step : (picked : Result (Option (ℕ × List ℕ)) SearchFault) → picked_read (secret_of run s) f.replies (picked_record records run.pick) ≡ picked → IsReadAs result (picked >>= answer_of ranked records) → Told run was last result left
          step (Ok document) e h =
              ends-told result (answer_of ranked records document) h
              (concluded-told run was g.mid s ranked.hits ranked.unknown g.stream g.ranks.scored ranked.buckets ranked.refused all_rows g.ranks.placed refl all_long now g.read.body g.read.replies came g.read.spelled records found last reply5 f.replies f.came5 f.spelled
              (record { hits = hits_shown (shown_of ranked.refused ranked.hits) records; unknown = ranked.unknown; document = document }) left refl g.ranks.scored.begun.unknown_are e f.left_is)
          step (Err fault) e h =
              ends-told result (Err fault) h
              (text-told run was g.mid s ranked.hits ranked.unknown g.stream g.ranks.scored ranked.buckets ranked.refused all_rows g.ranks.placed refl all_long now g.read.body g.read.replies came g.read.spelled records found last reply5 f.replies f.came5 f.spelled fault left (λ w. e))
