-- What the exchanges of a search show, they show in one way.
use Rattle.std.proofs.Common.{◌≡◌, ℕ, zero, suc, ◌*◌, sym, ap, subst, ◌∙◌, List, [], ◌∷◌, get_or, map, Option, Some, Result, Ok}
use Rattle.std.specs.Prelude.{slice_get}
use Rattle.std.proofs.lemmas.Option.{none-some, same_Some}
use Rattle.co_link.specs.Exchanges.{exchange_of}
use Rattle.co_link.specs.declared.messages.Target.{Target}
use Rattle.co_link.specs.declared.messages.Target.TheVariants.{Score, Meta}
use Rattle.co_link.specs.declared.messages.Request.{Request}
use Rattle.co_link.specs.declared.messages.Exchange.{Exchange}
use Rattle.co_noise.specs.Shapes.{Numbers, document_blocks}
use Rattle.co_bfv.specs.Ciphertexts.{Ciphertext}
use Rattle.co_bucket.specs.Lists.{bucket_count}
use Rattle.co_bucket.specs.Bytes.{record_chunks}
use Rattle.co_bucket.specs.Placement.{IsPlacement}
use Rattle.co_bucket.proofs.OneAnswer.{same_placement}
use Rattle.co_pack.specs.declared.records.Record.{Record}
use Rattle.co_text.specs.declared.ranks.Ranked.{Ranked}
use Rattle.co_text.specs.Ranking.{ranking}
use Rattle.co_wire.specs.Bodies.{SpellsCiphers}
use Rattle.co_wire.specs.Public.{public_of}
use Rattle.co_wire.proofs.Formats.{ok_is}
use Rattle.co_wire.proofs.One_value.{one-list}
use Rattle.co_rounds.specs.Answers.{reply_with}
use Rattle.co_rounds.specs.Plans.{targets}
use Rattle.co_rounds.specs.Placing.{choices_of}
use Rattle.co_rounds.specs.Scoring.{scores_read}
use Rattle.co_client.specs.declared.fault.SearchFault.{SearchFault}
use Rattle.co_client.specs.Causes.{Search, Publishes, Answered, ReadsHits, ReadsRecords, secret_of}
use Rattle.co_client.specs.Records.{records_read}
use Rattle.co_client.proofs.Exchanged.{place_is}

-- ---- the published numbers

pub publishes-one : (s : Numbers) (ts : List (List ℕ)) (first : Exchange) (others : List Exchange) → public_of first.reply.body ≡ Ok (s, ts)
    → (s' : Numbers) (ts' : List (List ℕ)) → Publishes (first ∷ others) s' ts' → ◌≡◌ {A = Numbers × List (List ℕ)} (s, ts) (s', ts')
publishes-one s ts first others read s' ts' p =
    let head : first ≡ p.first = ap (λ (es : List Exchange). get_or es 0 first) p.are in
    ok_is (s, ts) (s', ts') (sym read ∙ ap (λ (e : Exchange). public_of e.reply.body) head ∙ p.read)

-- ---- the replies

-- the targets of exchanges
abbrev pub asked_for : List Exchange → List Target
asked_for es = map (λ e. e.request.target) es

target-at : (es : List Exchange) (number : ℕ) (e : Exchange) → slice_get es number ≡ Some e → slice_get (asked_for es) number ≡ Some e.request.target
target-at [] number e h = absurd (none-some e h)
target-at (x ∷ xs) zero e h = ap (λ (y : Exchange). Some y.request.target) (same_Some x e h)
target-at (x ∷ xs) (suc number) e h = target-at xs number e h

-- exchanges for the targets in their order, of which the one of this number is this
pub answered-one : (es : List Exchange) (n count number : ℕ) (r : Request) (body : List ℕ) (replies others : List Ciphertext) → ((k : ℕ) (t : Target) → slice_get (asked_for es) k ≡ Some t → slice_get targets k ≡ Some t)
    → slice_get es number ≡ Some (exchange_of r (reply_with 200 body)) → slice_get targets number ≡ Some r.target → SpellsCiphers n count replies body → Answered es n count r.target others → replies ≡ others
answered-one es n count number r body replies others order here place spelled a =
    let there = order a.number a.request.target (target-at es a.number (exchange_of a.request (reply_with 200 a.body)) a.is) in
    let same : a.number ≡ number = place_is a.number r.target (there ∙ ap (λ (t : Target). Some t) a.target_is) ∙ sym (place_is number r.target place) in
    let one : exchange_of a.request (reply_with 200 a.body) ≡ exchange_of r (reply_with 200 body) =
    same_Some _ _ (sym a.is ∙ ap (λ (k : ℕ). slice_get es k) same ∙ here) in
    one-list n count replies others body spelled (subst (λ (b : List ℕ). SpellsCiphers n count others b) (ap (λ (e : Exchange). e.reply.body) one) a.spelled)

pub hits-one : (run : Search) (es : List Exchange) (s : Numbers) (ts : List (List ℕ)) (r : Request) (body : List ℕ) (replies : List Ciphertext) (hits : List Ranked) → ((k : ℕ) (t : Target) → slice_get (asked_for es) k ≡ Some t → slice_get targets k ≡ Some t)
    → slice_get es 2 ≡ Some (exchange_of r (reply_with 200 body)) → r.target ≡ Score → SpellsCiphers s.degree (document_blocks s) replies body → hits ≡ ranking s.hits (scores_read s (secret_of run s) replies)
    → (others : List Ranked) → ReadsHits run es s ts others → hits ≡ others
hits-one run es s ts r body replies hits order here target spelled are others h =
    let place : slice_get targets 2 ≡ Some r.target = ap (λ (t : Target). Some t) (sym target) in
    let scored = subst (λ (t : Target). Answered es s.degree (document_blocks s) t h.replies) (sym target) h.scored in
    let same = answered-one es s.degree (document_blocks s) 2 r body replies h.replies order here place spelled scored in
    are ∙ ap (λ (cs : List Ciphertext). ranking s.hits (scores_read s (secret_of run s) cs)) same ∙ sym h.are

pub records-one : (run : Search) (es : List Exchange) (s : Numbers) (ts : List (List ℕ)) (r : Request) (body : List ℕ) (replies : List Ciphertext) (hits : List Ranked) (placed : List (Option ℕ)) (records : Result (List Record) SearchFault)
    → ((k : ℕ) (t : Target) → slice_get (asked_for es) k ≡ Some t → slice_get targets k ≡ Some t)
    → slice_get es 3 ≡ Some (exchange_of r (reply_with 200 body)) → r.target ≡ Meta → SpellsCiphers s.degree (bucket_count s.hits * record_chunks s.degree) replies body → IsPlacement (choices_of s hits) (bucket_count s.hits) placed
    → records ≡ records_read s (secret_of run s) replies placed 0 hits → ((others : List Ranked) → ReadsHits run es s ts others → hits ≡ others)
    → (others : List Ranked) (found : Result (List Record) SearchFault) → ReadsRecords run es s ts others found → records ≡ found
records-one run es s ts r body replies hits placed records order here target spelled placement are only others found h =
    let same_hits : hits ≡ others = only others h.ranked in
    let place : slice_get targets 3 ≡ Some r.target = ap (λ (t : Target). Some t) (sym target) in
    let gathered = subst (λ (t : Target). Answered es s.degree (bucket_count s.hits * record_chunks s.degree) t h.replies) (sym target) h.gathered in
    let same = answered-one es s.degree (bucket_count s.hits * record_chunks s.degree) 3 r body replies h.replies order here place spelled gathered in
    let there : IsPlacement (choices_of s hits) (bucket_count s.hits) h.placed = subst (λ (hs : List Ranked). IsPlacement (choices_of s hs) (bucket_count s.hits) h.placed) (sym same_hits) h.placement in
    let same_placed = same_placement (choices_of s hits) (bucket_count s.hits) placed h.placed placement there in
    are ∙ (λ t. records_read s (secret_of run s) (same t) (same_placed t) 0 (same_hits t)) ∙ sym h.are
