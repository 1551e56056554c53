-- The exchanges of a search, one behind another.
use Rattle.std.proofs.Common.{◌≡◌, ℕ, ◌*◌, refl, sym, ap, subst, ◌∙◌, arith, ℤ, List, [], ◌∷◌, ◌++◌, length, map, take, drop, append_assoc, Option, Some, None, Ok}
use Rattle.std.proofs.lemmas.Option.{same_Some}
use Rattle.std.proofs.lemmas.List.{append-nil, take_at, drop_at, take-map, length-map}
use Rattle.rand_core.specs.Stream.{Stream}
use Rattle.co_link.specs.Exchanges.{exchange_of}
use Rattle.co_link.specs.declared.messages.Target.{Target}
use Rattle.co_link.specs.declared.messages.Target.TheVariants.{Public, Keys, Score, Meta, Document}
use Rattle.co_link.specs.declared.messages.Request.{Request}
use Rattle.co_link.specs.declared.messages.Reply.{Reply}
use Rattle.co_link.specs.declared.messages.Exchange.{Exchange}
use Rattle.co_noise.specs.Shapes.{Numbers, keyword_blocks}
use Rattle.co_bucket.specs.Lists.{bucket_count}
use Rattle.co_bfv.specs.Draws.{ternary_draw, secret_draw}
use Rattle.co_bfv.proofs.Drawn.{length-drawn}
use Rattle.co_wire.specs.Lengths.{request_size}
use Rattle.co_wire.specs.Public.{public_of}
use Rattle.co_rounds.specs.Asked.{asked_draw, bodies_of, row_message}
use Rattle.co_rounds.specs.Plans.{Seen, trace, plan, plan_of, FollowsPlan, IsWholePlan, made, Extends}
use Rattle.co_client.specs.Telling.{Makes}
use Rattle.co_client.specs.Published.{public_request}
use Rattle.co_client.specs.Rounds.{Comes, ComesNone, keys_asked, keys_request, queries_request, queries_rest, record_messages, bin_messages}
use Rattle.co_client.proofs.Sizes.{keys-size, queries-size}

-- ---- exchanges behind those before a call

pub makes-none : (was : Option (List Exchange)) → Makes was was []
makes-none None = refl
makes-none (Some old) = ap (λ (xs : List Exchange). Some xs) (sym (append-nil old))

pub makes-one : (was mid now : Option (List Exchange)) (es : List Exchange) (r : Request) (reply : Reply) → Makes was mid es → Comes mid now r reply → Makes was now (es ++ exchange_of r reply ∷ [])
makes-one None mid now es r reply h c = subst (λ (m : Option (List Exchange)). Comes m now r reply → now ≡ None) (sym h) (λ d. d) c
makes-one (Some old) mid now es r reply h c =
    subst (λ (m : Option (List Exchange)). Comes m now r reply → now ≡ Some (old ++ (es ++ exchange_of r reply ∷ []))) (sym h)
    (λ d. d ∙ ap (λ (xs : List Exchange). Some xs) (append_assoc old es (exchange_of r reply ∷ []))) c

pub makes-same : (was mid now : Option (List Exchange)) (es : List Exchange) → Makes was mid es → ComesNone mid now → Makes was now es
makes-same None mid now es h c = subst (λ (m : Option (List Exchange)). ComesNone m now → now ≡ None) (sym h) (λ d. d) c
makes-same (Some old) mid now es h c = subst (λ (m : Option (List Exchange)). ComesNone m now → now ≡ Some (old ++ es)) (sym h) (λ d. d) c

no_list : {X : Type 0} (xs : List X) → None ≡ Some xs → ⊥
no_list {X} xs e = subst (λ (o : Option (List X)). elim o as (λ _. Type 0) [ None ↦ Unit {0} | Some _ ↦ ⊥ ]) e tt

-- what a call made is known
pub made-are : (was now : Option (List Exchange)) (es fs : List Exchange) → Makes was now es → made was now ≡ Some fs → es ≡ fs
made-are None now es fs h e = absurd (no_list fs e)
made-are (Some old) now es fs h e =
    sym (drop_at old es (length old) refl)
    ∙ same_Some (drop (length old) (old ++ es)) fs (subst (λ (m : Option (List Exchange)). made (Some old) m ≡ Some fs → Some (drop (length old) (old ++ es)) ≡ Some fs) (sym h) (λ d. d) e)

pub made-extends : (was now : Option (List Exchange)) (es : List Exchange) → Makes was now es → Extends was now
made-extends None now es h = h
made-extends (Some old) now es h = subst (λ (m : Option (List Exchange)). Extends (Some old) m) (sym h) (take_at old es (length old) refl)

-- ---- the five requests

abbrev pub secret_at : Numbers → Stream → List ℤ
secret_at s stream = (secret_draw s.degree stream).0

abbrev pub after_keys : Numbers → Stream → Stream
after_keys s stream = (keys_asked s stream).1

abbrev pub after_scores : Numbers → List (List ℕ) → Stream → Stream
after_scores s ms stream = queries_rest (secret_at s stream) ms (after_keys s stream)

abbrev pub after_records : Numbers → List (List ℕ) → List ℕ → Stream → Stream
after_records s ms rows stream = queries_rest (secret_at s stream) (record_messages s rows) (after_scores s ms stream)

abbrev pub after_all : Numbers → List (List ℕ) → List ℕ → ℕ → Stream → Stream
after_all s ms rows bin stream = queries_rest (secret_at s stream) (bin_messages s bin) (after_records s ms rows stream)

abbrev pub score_request : Numbers → List (List ℕ) → Stream → Request
score_request s ms stream = queries_request Score (secret_at s stream) ms (after_keys s stream)

abbrev pub record_request : Numbers → List (List ℕ) → List ℕ → Stream → Request
record_request s ms rows stream = queries_request Meta (secret_at s stream) (record_messages s rows) (after_scores s ms stream)

abbrev pub bin_request : Numbers → List (List ℕ) → List ℕ → ℕ → Stream → Request
bin_request s ms rows bin stream = queries_request Document (secret_at s stream) (bin_messages s bin) (after_records s ms rows stream)

abbrev pub requests_of : Numbers → List (List ℕ) → List ℕ → ℕ → Stream → List Request
requests_of s ms rows bin stream = public_request ∷ keys_request s stream ∷ score_request s ms stream ∷ record_request s ms rows stream ∷ bin_request s ms rows bin stream ∷ []

-- they are what the draws ask
pub asked-are : (s : Numbers) (ms : List (List ℕ)) (rows : List ℕ) (bin : ℕ) (stream : Stream) → map (λ r. r.body) (requests_of s ms rows bin stream) ≡ [] ∷ bodies_of (asked_draw s ms rows bin stream).0
unfolding asked_draw keys_asked keys_request queries_request
asked-are s ms rows bin stream = refl

pub asked-rest : (s : Numbers) (ms : List (List ℕ)) (rows : List ℕ) (bin : ℕ) (stream : Stream) → after_all s ms rows bin stream ≡ (asked_draw s ms rows bin stream).1
unfolding asked_draw keys_asked
asked-rest s ms rows bin stream = refl

-- the plan's lengths
queries-long : (t : Target) (s : Numbers) (stream : Stream) (ms : List (List ℕ)) (from : Stream) → length (queries_request t (secret_at s stream) ms from).body ≡ length ms * (28 * s.degree)
unfolding queries_request secret_draw
queries-long t s stream ms from = queries-size (secret_draw s.degree stream).0 ms from ∙ ap (λ (k : ℕ). length ms * (28 * k)) (length-drawn ternary_draw s.degree stream)

keys-long : (s : Numbers) (stream : Stream) → length (keys_request s stream).body ≡ request_size s Keys
unfolding keys_request
keys-long s stream = keys-size s stream

abbrev seen_of : Request → Seen
seen_of r = (r.target, length r.body)

planned-are : (s : Numbers) (ms : List (List ℕ)) (rows : List ℕ) (bin : ℕ) (stream : Stream) → length ms ≡ keyword_blocks s → length rows ≡ bucket_count s.hits → map seen_of (requests_of s ms rows bin stream) ≡ plan s
unfolding keys_request queries_request
planned-are s ms rows bin stream e f =
    let keys : length (keys_request s stream).body ≡ request_size s Keys = keys-long s stream in
    let scores : length (score_request s ms stream).body ≡ request_size s Score = queries-long Score s stream ms (after_keys s stream) ∙ ap (λ (k : ℕ). k * (28 * s.degree)) e in
    let records : length (record_request s ms rows stream).body ≡ request_size s Meta =
    queries-long Meta s stream (record_messages s rows) (after_scores s ms stream) ∙ ap (λ (k : ℕ). k * (28 * s.degree)) (length-map rows (row_message s.degree s.rows) ∙ f) in
    let one : 1 * (28 * s.degree) ≡ 28 * s.degree = omega arith in
    let document : length (bin_request s ms rows bin stream).body ≡ request_size s Document = queries-long Document s stream (bin_messages s bin) (after_records s ms rows stream) ∙ one in
    λ t. (Public, 0) ∷ (Keys, keys t) ∷ (Score, scores t) ∷ (Meta, records t) ∷ (Document, document t) ∷ []

-- ---- trails

-- these are the first of a search's exchanges
pub record IsTrail (s : Numbers) (ms : List (List ℕ)) (rows : List ℕ) (bin : ℕ) (stream : Stream) (es : List Exchange) : Type 0 where
  pub requests : map (λ e. e.request) es ≡ take (length es) (requests_of s ms rows bin stream)

seen-of-requests : (es : List Exchange) → trace es ≡ map seen_of (map (λ e. e.request) es)
seen-of-requests [] = refl
seen-of-requests (e ∷ es) = ap (λ (xs : List Seen). (e.request.target, length e.request.body) ∷ xs) (seen-of-requests es)

bodies-of-requests : (es : List Exchange) → map (λ e. e.request.body) es ≡ map (λ r. r.body) (map (λ e. e.request) es)
bodies-of-requests [] = refl
bodies-of-requests (e ∷ es) = ap (λ (xs : List (List ℕ)). e.request.body ∷ xs) (bodies-of-requests es)

pub trail-seen : (s : Numbers) (ms : List (List ℕ)) (rows : List ℕ) (bin : ℕ) (stream : Stream) (es : List Exchange) → length ms ≡ keyword_blocks s → length rows ≡ bucket_count s.hits → IsTrail s ms rows bin stream es → trace es ≡ take (length es) (plan s)
trail-seen s ms rows bin stream es e f h =
    seen-of-requests es ∙ ap (λ (rs : List Request). map seen_of rs) h.requests ∙ sym (take-map seen_of (length es) (requests_of s ms rows bin stream))
    ∙ ap (λ (xs : List Seen). take (length es) xs) (planned-are s ms rows bin stream e f)

pub trail-follows : (s : Numbers) (ts : List (List ℕ)) (ms : List (List ℕ)) (rows : List ℕ) (bin : ℕ) (stream : Stream) (first : Exchange) (others : List Exchange) → length ms ≡ keyword_blocks s → length rows ≡ bucket_count s.hits
    → public_of first.reply.body ≡ Ok (s, ts) → IsTrail s ms rows bin stream (first ∷ others) → FollowsPlan (first ∷ others)
trail-follows s ts ms rows bin stream first others e f read h =
    trail-seen s ms rows bin stream (first ∷ others) e f h ∙ ap (λ p. take (length (first ∷ others)) (plan_of p)) (sym read)

pub trail-whole : (s : Numbers) (ts : List (List ℕ)) (ms : List (List ℕ)) (rows : List ℕ) (bin : ℕ) (stream : Stream) (first : Exchange) (others : List Exchange) → length ms ≡ keyword_blocks s → length rows ≡ bucket_count s.hits
    → public_of first.reply.body ≡ Ok (s, ts) → length (first ∷ others) ≡ 5 → IsTrail s ms rows bin stream (first ∷ others) → IsWholePlan (first ∷ others)
trail-whole s ts ms rows bin stream first others e f read five h = record {
  shape = s;
  terms = ts;
  first = first;
  others = others;
  are = refl;
  published = read;
  all = trail-seen s ms rows bin stream (first ∷ others) e f h ∙ ap (λ (k : ℕ). take k (plan s)) five;
}

pub trail-asks : (s : Numbers) (ms : List (List ℕ)) (rows : List ℕ) (bin : ℕ) (stream : Stream) (es : List Exchange) → IsTrail s ms rows bin stream es
    → map (λ e. e.request.body) es ≡ take (length es) ([] ∷ bodies_of (asked_draw s ms rows bin stream).0)
trail-asks s ms rows bin stream es h =
    bodies-of-requests es ∙ ap (λ (rs : List Request). map (λ r. r.body) rs) h.requests ∙ sym (take-map (λ (r : Request). r.body) (length es) (requests_of s ms rows bin stream))
    ∙ ap (λ (xs : List (List ℕ)). take (length es) xs) (asked-are s ms rows bin stream)
