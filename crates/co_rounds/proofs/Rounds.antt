-- What a client reads from honest replies, round by round.
use Rattle.std.proofs.Common.{◌≡◌, ℕ, suc, ◌+◌, ◌*◌, ◌<◌, ◌≤◌, refl, sym, ap, subst, ◌∙◌, arith, ℤ, List, [], ◌∷◌, ◌++◌, length, take, drop, All, Option, Some, None, Ok}
use Rattle.std.specs.List.{flat_map, range_with_len}
use Rattle.std.proofs.lemmas.List.{length-append}
use Rattle.std.proofs.lemmas.List.Concat.{flat_map-cons}
use Rattle.std.proofs.lemmas.List.FromFn.{length-range_with_len}
use Rattle.std.proofs.lemmas.List.Elements.{All-from_get_or, All-append}
use Rattle.co_link.specs.declared.messages.Target.TheVariants.{Public, Score, Meta, Document as ForDocument}
use Rattle.co_link.specs.declared.messages.Request.{Request}
use Rattle.co_link.specs.declared.messages.Reply.{Reply}
use Rattle.co_link.specs.Exchanges.{exchange_of}
use Rattle.co_math.specs.Coefficients.{IsDegree, signed_coefficients}
use Rattle.co_math.specs.Logarithms.{log2_up}
use Rattle.co_noise.specs.Shapes.{Numbers, keyword_blocks, document_blocks as document_blocks_of}
use Rattle.co_noise.specs.Bounds.{HasRoom}
use Rattle.co_noise.proofs.Ranges.{ranges}
use Rattle.co_bucket.specs.Lists.{bucket_count}
use Rattle.co_bucket.specs.Bytes.{record_chunks}
use Rattle.co_slots.specs.Payloads.{IsPayload}
use Rattle.co_bfv.specs.Secrets.{IsSecret}
use Rattle.co_bfv.specs.Ciphertexts.{Ciphertext, IsCiphertext, ciphertext_degree}
use Rattle.co_bfv.specs.Totals.{no_ciphertext, ciphertext_at, IsOfDegree}
use Rattle.co_bfv.proofs.Totals.{ciphertext_total-IsOfDegree}
use Rattle.co_switch.specs.Keys.{Keys, AreGoodKeys}
use Rattle.co_matvec.specs.Weights.{WeightMatrix, keyword_blocks as keyword_blocks_in, document_blocks}
use Rattle.co_matvec.specs.Replies.{AreScoreReplies, score_sum}
use Rattle.co_pir.specs.Tables.{Table, row_bytes}
use Rattle.co_pir.specs.Replies.{retrieved, chunk_reply}
use Rattle.co_pir.specs.Expansions.{expanded}
use Rattle.co_pir.specs.Openings.{opened_reply}
use Rattle.co_pir.proofs.Gathering.{table_reply-at, table_reply-degrees, length-table_reply}
use Rattle.co_corpus.specs.declared.documents.Document.{Document}
use Rattle.co_pack.specs.Records.{record_of}
use Rattle.co_text.specs.Terms.{distinct}
use Rattle.co_text.specs.Numbers.{numbers_of as keywords_of}
use Rattle.co_tfidf.specs.Scores.{scores}
use Rattle.co_wire.specs.Reading.{headed}
use Rattle.co_wire.specs.Public.{ArePublic, fields, public_word, public_bytes, public_of}
use Rattle.co_wire.proofs.Formats.{whole_again}
use Rattle.co_wire.proofs.Public_format.{public_format}
use Rattle.co_wire.specs.Bodies.{AreCiphers, SpellsCiphers, SpellsKeys}
use Rattle.co_wire.proofs.One_value.{one-list, one-key-set}
use Rattle.co_library.specs.declared.settings.Settings.{Settings}
use Rattle.co_library.specs.Libraries.{Parts, IsLibrary}
use Rattle.co_library.specs.Refusals.{IsBuilt}
use Rattle.co_rounds.specs.Serving.{weights_of, gathered, bucket_table, bin_table}
use Rattle.co_rounds.specs.Answers.{Spells, IsAnswer, IsDone, IsScored, IsGathered, IsFetched, reply_of, reply_with}
use Rattle.co_rounds.specs.Honest.{IsHonest, AreHeld}
use Rattle.co_rounds.specs.Placing.{document_row, document_start}
use Rattle.co_rounds.specs.Scoring.{AskScores, scores_read}
use Rattle.co_rounds.specs.Retrieving.{OverRecordRound, OverDocumentRound}
use Rattle.co_rounds.specs.Recording.{ShowsDocument, AsksFor, bytes_of, bucket_replies}
use Rattle.co_rounds.specs.declared.answer.Answer.{Answer}
use Rattle.co_rounds.specs.declared.answer.Answer.TheVariants.{Done, Length, NoKeys, Range, OutOfMemory}
use Rattle.co_rounds.proofs.Scored.{scores_plain}
use Rattle.co_rounds.proofs.Retrievable.{bytes_read, bucket_opened, bin_opened}

-- ---- replies are ciphertexts

sum-whole : (w : WeightMatrix) (keys : Keys) (query : List Ciphertext) (diagonal : ℕ → ℕ → List ℕ) → IsDegree w.degree → IsOfDegree w.degree (score_sum w keys query diagonal)
unfolding score_sum
sum-whole w keys query diagonal d = ciphertext_total-IsOfDegree w.degree (keyword_blocks_in w) _ d

-- one for each block of documents
pub scores-ciphers : (l : Parts) (keys : Keys) (queries replies : List Ciphertext) → IsDegree l.shape.degree → AreScoreReplies (weights_of l) keys queries replies → AreCiphers l.shape.degree (document_blocks_of l.shape) replies
unfolding document_blocks document_blocks_of
scores-ciphers l keys queries replies d h =
    let whole : (i : ℕ) → i < length replies → IsOfDegree l.shape.degree (ciphertext_at replies i) =
    λ i u. subst (IsOfDegree l.shape.degree) (sym (h.each i u).is) (sum-whole (weights_of l) keys queries (h.each i u).diagonal d) in
    record {
      count_is = h.count;
      ciphers = All-from_get_or IsCiphertext replies no_ciphertext (λ i u. (whole i u).cipher);
      degrees = All-from_get_or (λ (c : Ciphertext). ciphertext_degree c ≡ l.shape.degree) replies no_ciphertext (λ i u. (whole i u).degree);
    }

chunk-whole : (t : Table) (cs : List Ciphertext) (chunk : ℕ) → IsDegree t.degree → IsCiphertext (chunk_reply t cs chunk)
unfolding chunk_reply
chunk-whole t cs chunk d = (ciphertext_total-IsOfDegree t.degree t.rows _ d).cipher

-- one for each chunk
pub retrieved-ciphers : (t : Table) (keys : Keys) (query : Ciphertext) → IsDegree t.degree → AreCiphers t.degree t.chunks (retrieved t keys query)
retrieved-ciphers t keys query d =
    let cs = expanded keys query (log2_up t.rows) in
    record {
      count_is = length-table_reply t cs;
      ciphers = All-from_get_or IsCiphertext (retrieved t keys query) no_ciphertext
          (λ i u. let low : i < t.chunks = omega (arith, length-table_reply t cs) in subst IsCiphertext (sym (table_reply-at t cs i low)) (chunk-whole t cs i d));
      degrees = table_reply-degrees t cs (retrieved t keys query) refl;
    }

-- such lists one after another
flat-ciphers : (n c : ℕ) (f : ℕ → List Ciphertext) (xs : List ℕ) → ((x : ℕ) → AreCiphers n c (f x)) → AreCiphers n (length xs * c) (flat_map f xs)
flat-ciphers n c f [] h = record { count_is = none c; ciphers = λ i d u. absurd (omega arith); degrees = λ i d u. absurd (omega arith) }
  where
    none : (c : ℕ) → 0 ≡ 0 * c
    none c = omega arith
flat-ciphers n c f (x ∷ xs) h =
    let rest = flat-ciphers n c f xs h in
    let here = h x in
    let whole : f x ++ flat_map f xs ≡ flat_map f (x ∷ xs) = sym (flat_map-cons f x xs) in
    record {
      count_is = ap (λ (cs : List Ciphertext). length cs) (sym whole) ∙ length-append (f x) (flat_map f xs) ∙ (λ t. here.count_is t + rest.count_is t) ∙ more (length xs) c;
      ciphers = subst (All IsCiphertext) whole (All-append IsCiphertext (f x) (flat_map f xs) here.ciphers rest.ciphers);
      degrees = subst (All (λ k. ciphertext_degree k ≡ n)) whole (All-append (λ k. ciphertext_degree k ≡ n) (f x) (flat_map f xs) here.degrees rest.degrees);
    }
  where
    more : (k c : ℕ) → c + k * c ≡ suc k * c
    more k c = omega arith

-- one for each chunk of each bucket
pub gathered-ciphers : (l : Parts) (keys : Keys) (queries : List Ciphertext) → IsDegree l.shape.degree → AreCiphers l.shape.degree (bucket_count l.shape.hits * record_chunks l.shape.degree) (gathered l keys queries)
unfolding gathered
gathered-ciphers l keys queries d =
    subst (λ (m : ℕ). AreCiphers l.shape.degree (m * record_chunks l.shape.degree) (gathered l keys queries)) (length-range_with_len 0 (bucket_count l.shape.hits))
    (flat-ciphers l.shape.degree (record_chunks l.shape.degree) (λ b. retrieved (bucket_table l b) keys (ciphertext_at queries b)) (range_with_len 0 (bucket_count l.shape.hits))
    (λ b. retrieved-ciphers (bucket_table l b) keys (ciphertext_at queries b) d))

-- ---- honest replies of status 200

-- such a reply is that of an answer that was done
done_only : (answer : Answer) (body : List ℕ) → reply_with 200 body ≡ reply_of answer → answer ≡ Done body
done_only (Done reply) body e = ap (λ (r : Reply). Done r.body) (sym e)
done_only (Length wanted found) body e = absurd (omega (arith, ap (λ (r : Reply). r.status) e))
done_only NoKeys body e = absurd (omega (arith, ap (λ (r : Reply). r.status) e))
done_only (Range place) body e = absurd (omega (arith, ap (λ (r : Reply). r.status) e))
done_only OutOfMemory body e = absurd (omega (arith, ap (λ (r : Reply). r.status) e))

-- under the keys that are held
pub honest_done : (l : Parts) (held : Option (List ℕ)) (r : Request) (body : List ℕ) (h : IsHonest l held (exchange_of r (reply_with 200 body))) → IsDone l h.keys r.target r.body body
honest_done l held r body h = subst (λ (a : Answer). IsAnswer l h.keys r a) (done_only h.answer body h.is) h.answers

-- ---- what such replies spell

written_back : (s : Numbers) (ts : List (List ℕ)) → ArePublic s ts → public_of (public_bytes s ts) ≡ Ok (s, ts)
unfolding public_of
written_back s ts good = whole_again (headed public_word fields) (λ (p : Numbers × List (List ℕ)). public_bytes p.0 p.1) (λ p. ArePublic p.0 p.1) public_format (s, ts) good

pub public_told : (l : Parts) → IsLibrary l → (held : Option (List ℕ)) (asked reply : List ℕ) → IsHonest l held (exchange_of (record { target = Public; body = asked }) (reply_with 200 reply)) → public_of reply ≡ Ok (l.shape, l.terms)
public_told l library held asked reply h =
    let done : (asked ≡ []) × (reply ≡ public_bytes l.shape l.terms) = honest_done l held (record { target = Public; body = asked }) reply h in
    ap public_of done.1 ∙ written_back l.shape l.terms library.published

score_spelled : (l : Parts) (held : Option Keys) (asked reply : List ℕ) → IsDegree l.shape.degree → IsDone l held Score asked reply → Spells l.shape.degree (document_blocks_of l.shape) reply
score_spelled l None asked reply d h = absurd h
score_spelled l (Some keys) asked reply d h = record { ciphers = h.scores; spelled = record { ciphers = scores-ciphers l keys h.queries h.scores d h.scored; spelled = h.is } }

records_spelled : (l : Parts) (held : Option Keys) (asked reply : List ℕ) → IsDegree l.shape.degree → IsDone l held Meta asked reply → Spells l.shape.degree (bucket_count l.shape.hits * record_chunks l.shape.degree) reply
records_spelled l None asked reply d h = absurd h
records_spelled l (Some keys) asked reply d h = record { ciphers = gathered l keys h.queries; spelled = record { ciphers = gathered-ciphers l keys h.queries d; spelled = h.is } }

document_spelled : (l : Parts) (held : Option Keys) (asked reply : List ℕ) → IsDegree l.shape.degree → IsDone l held ForDocument asked reply → Spells l.shape.degree l.shape.chunks reply
document_spelled l None asked reply d h = absurd h
document_spelled l (Some keys) asked reply d h = record { ciphers = retrieved (bin_table l) keys h.query; spelled = record { ciphers = retrieved-ciphers (bin_table l) keys h.query d; spelled = h.is } }

module _ (l : Parts) (library : IsLibrary l) (held : Option (List ℕ)) (asked reply : List ℕ) where
  degree_of : IsDegree l.shape.degree
  degree_of = (ranges l.shape library.published.good.ranges).degree

  pub score_reply_spelled : IsHonest l held (exchange_of (record { target = Score; body = asked }) (reply_with 200 reply)) → Spells l.shape.degree (document_blocks_of l.shape) reply
  score_reply_spelled h = score_spelled l h.keys asked reply degree_of (honest_done l held (record { target = Score; body = asked }) reply h)

  pub records_reply_spelled : IsHonest l held (exchange_of (record { target = Meta; body = asked }) (reply_with 200 reply)) → Spells l.shape.degree (bucket_count l.shape.hits * record_chunks l.shape.degree) reply
  records_reply_spelled h = records_spelled l h.keys asked reply degree_of (honest_done l held (record { target = Meta; body = asked }) reply h)

  pub document_reply_spelled : IsHonest l held (exchange_of (record { target = ForDocument; body = asked }) (reply_with 200 reply)) → Spells l.shape.degree l.shape.chunks reply
  document_reply_spelled h = document_spelled l h.keys asked reply degree_of (honest_done l held (record { target = ForDocument; body = asked }) reply h)

-- ---- the keys that are held are those of the client

pub held_are : (s : Numbers) (keys_body : List ℕ) (keys : Keys) (held : Option Keys) → SpellsKeys s keys keys_body → AreHeld s (Some keys_body) held → held ≡ Some keys
held_are s keys_body keys None spelled h = absurd h
held_are s keys_body keys (Some other) spelled h = ap Some (one-key-set s other keys keys_body h spelled)

-- ---- rounds

pub score_round : (documents : List Document) (settings : Settings) (l : Parts) → IsBuilt documents settings l → HasRoom l.shape
    → (secret : List ℤ) → IsSecret secret → length secret ≡ l.shape.degree
    → (keys : Keys) (keys_body : List ℕ) → SpellsKeys l.shape keys keys_body → AreGoodKeys (signed_coefficients secret) keys
    → (query : List (List ℕ)) → length (distinct query) ≤ 16
    → (queries : List Ciphertext) (asked : List ℕ) → SpellsCiphers l.shape.degree (keyword_blocks l.shape) queries asked → AskScores l.shape.degree secret (keywords_of l.terms (distinct query)) queries
    → (reply : List ℕ) → IsHonest l (Some keys_body) (exchange_of (record { target = Score; body = asked }) (reply_with 200 reply))
    → (replies : List Ciphertext) → SpellsCiphers l.shape.degree (document_blocks_of l.shape) replies reply
    → scores_read l.shape secret replies ≡ scores settings.terms documents query
score_round documents settings l built room secret is_secret degree keys keys_body spelled good query few queries asked asks_spelled asks reply honest replies replies_spelled =
    let n = l.shape.degree in
    let has = ranges l.shape built.good.published.good.ranges in
    let done : IsScored l keys asked reply = subst (λ (held : Option Keys). IsDone l held Score asked reply) (held_are l.shape keys_body keys honest.keys spelled honest.spelled) (honest_done l (Some keys_body) (record { target = Score; body = asked }) reply honest) in
    let same_queries : done.queries ≡ queries = one-list n (keyword_blocks l.shape) done.queries queries asked done.asked asks_spelled in
    let served = scores-ciphers l keys done.queries done.scores has.degree done.scored in
    let same_replies : done.scores ≡ replies = one-list n (document_blocks_of l.shape) done.scores replies reply (record { ciphers = served; spelled = done.is }) replies_spelled in
    let scored : AreScoreReplies (weights_of l) keys queries replies = subst (λ (cs : List Ciphertext). AreScoreReplies (weights_of l) keys cs replies) same_queries (subst (λ (cs : List Ciphertext). AreScoreReplies (weights_of l) keys done.queries cs) same_replies done.scored) in
    scores_plain documents settings l built room secret is_secret degree keys spelled.keys_for good query few queries replies asks_spelled.ciphers asks scored

pub record_round : (l : Parts) (secret : List ℤ) (keys : Keys) → OverRecordRound l secret keys (λ queries replies. (bucket row : ℕ) → bucket < bucket_count l.shape.hits → AsksFor l.shape.degree secret (ciphertext_at queries bucket) l.shape.rows row
    → IsPayload (row_bytes (bucket_table l bucket) row) (opened_reply secret (bucket_replies l.shape replies bucket)))
record_round l secret keys can keys_body spelled queries asked asks_spelled reply honest replies replies_spelled bucket row b asks =
    let n = l.shape.degree in
    let count = bucket_count l.shape.hits in
    let has = ranges l.shape can.library.published.good.ranges in
    let done : IsGathered l keys asked reply = subst (λ (held : Option Keys). IsDone l held Meta asked reply) (held_are l.shape keys_body keys honest.keys spelled honest.spelled) (honest_done l (Some keys_body) (record { target = Meta; body = asked }) reply honest) in
    let same_queries : done.queries ≡ queries = one-list n count done.queries queries asked done.asked asks_spelled in
    let same_replies : gathered l keys done.queries ≡ replies = one-list n (count * record_chunks n) (gathered l keys done.queries) replies reply (record { ciphers = gathered-ciphers l keys done.queries has.degree; spelled = done.is }) replies_spelled in
    subst (λ (cs : List Ciphertext). IsPayload (row_bytes (bucket_table l bucket) row) (opened_reply secret (bucket_replies l.shape cs bucket))) (sym (ap (gathered l keys) same_queries) ∙ same_replies)
    (bucket_opened l secret keys can queries bucket row b asks)

pub document_round : (l : Parts) (secret : List ℤ) (keys : Keys) → OverDocumentRound l secret keys (λ query replies. (bin : ℕ) → AsksFor l.shape.degree secret query l.shape.bins bin
    → IsPayload (row_bytes (bin_table l) bin) (opened_reply secret replies))
document_round l secret keys can keys_body spelled query asked asks_spelled reply honest replies replies_spelled bin asks =
    let n = l.shape.degree in
    let has = ranges l.shape can.library.published.good.ranges in
    let done : IsFetched l keys asked reply = subst (λ (held : Option Keys). IsDone l held ForDocument asked reply) (held_are l.shape keys_body keys honest.keys spelled honest.spelled) (honest_done l (Some keys_body) (record { target = ForDocument; body = asked }) reply honest) in
    let same_query : done.query ≡ query = ap (λ (cs : List Ciphertext). ciphertext_at cs 0) (one-list n 1 (done.query ∷ []) (query ∷ []) asked done.asked asks_spelled) in
    let same_replies : retrieved (bin_table l) keys done.query ≡ replies = one-list n l.shape.chunks (retrieved (bin_table l) keys done.query) replies reply (record { ciphers = retrieved-ciphers (bin_table l) keys done.query has.degree; spelled = done.is }) replies_spelled in
    subst (λ (cs : List Ciphertext). IsPayload (row_bytes (bin_table l) bin) (opened_reply secret cs)) (sym (ap (retrieved (bin_table l) keys) same_query) ∙ same_replies)
    (bin_opened l secret keys can query bin asks)

-- ---- documents

pub record_read : (l : Parts) (secret : List ℤ) (keys : Keys) → OverRecordRound l secret keys (λ queries replies. (bucket number : ℕ) (document : Document) (shown : ShowsDocument l bucket number document) → bucket < bucket_count l.shape.hits
    → AsksFor l.shape.degree secret (ciphertext_at queries bucket) l.shape.rows (document_row l.shape bucket number)
    → record_of (take 256 (drop (document_start l.shape bucket number) (bytes_of (opened_reply secret (bucket_replies l.shape replies bucket)))))
    ≡ Ok (record { document = number; place = shown.place; title = document.title }))
record_read l secret keys can keys_body spelled queries asked asks_spelled reply honest replies replies_spelled bucket number document shown b asks =
    ap (λ (bytes : List ℕ). record_of (take 256 (drop (document_start l.shape bucket number) bytes)))
    (bytes_read (row_bytes (bucket_table l bucket) (document_row l.shape bucket number)) (opened_reply secret (bucket_replies l.shape replies bucket))
    (record_round l secret keys can keys_body spelled queries asked asks_spelled reply honest replies replies_spelled bucket (document_row l.shape bucket number) b asks))
    ∙ shown.read

pub text_read : (l : Parts) (secret : List ℤ) (keys : Keys) → OverDocumentRound l secret keys (λ query replies. (bucket number : ℕ) (document : Document) (shown : ShowsDocument l bucket number document)
    → AsksFor l.shape.degree secret query l.shape.bins shown.place.bin
    → take shown.place.length (drop shown.place.offset (bytes_of (opened_reply secret replies))) ≡ document.text)
text_read l secret keys can keys_body spelled query asked asks_spelled reply honest replies replies_spelled bucket number document shown asks =
    ap (λ (bytes : List ℕ). take shown.place.length (drop shown.place.offset bytes))
    (bytes_read (row_bytes (bin_table l) shown.place.bin) (opened_reply secret replies)
    (document_round l secret keys can keys_body spelled query asked asks_spelled reply honest replies replies_spelled shown.place.bin asks))
    ∙ shown.text
