-- Where a search ends, and what it tells there.
use Rattle.std.proofs.Common.{◌≡◌, ◌≢◌, ℕ, zero, suc, ◌<◌, ◌≤◌, inl, inr, refl, sym, ap, subst, ◌∙◌, ⊎_elim, arith, List, [], ◌∷◌, length, get_or, take, Option, Result, Ok, Err}
use Rattle.std.specs.Prelude.{slice_get, Some, All}
use Rattle.std.proofs.lemmas.Bool.{cases_lt}
use Rattle.std.proofs.lemmas.List.{get_or_past}
use Rattle.std.proofs.lemmas.List.FromFn.{length-map-range_with_len}
use Rattle.rand_core.specs.Stream.{Stream}
use Rattle.co_link.specs.Exchanges.{exchange_of}
use Rattle.co_link.specs.declared.messages.Target.{Target}
use Rattle.co_link.specs.declared.messages.Target.TheVariants as targets_of
use Rattle.co_link.specs.declared.messages.Request.{Request}
use Rattle.co_link.specs.declared.messages.Exchange.{Exchange}
use Rattle.co_noise.specs.Shapes.{Numbers}
use Rattle.co_math.specs.Coefficients.{AreBelow, IsDegree}
use Rattle.co_noise.specs.Bounds.{test_of}
use Rattle.co_noise.specs.declared.testing.TestFault.{TestFault}
use Rattle.co_noise.proofs.Ranges.{ranges}
use Rattle.co_bucket.specs.Lists.{bucket_count}
use Rattle.co_text.specs.Terms.{distinct}
use Rattle.co_text.specs.Numbers.{numbers_of, unknown_in}
use Rattle.co_text.specs.declared.found.Found.{Found}
use Rattle.co_wire.specs.Reading.{headed}
use Rattle.co_wire.specs.Public.{ArePublic, fields, public_word, public_bytes, public_of}
use Rattle.co_wire.specs.Lengths.{reply_size, reply_limit, most_public}
use Rattle.co_wire.proofs.Formats.{whole_takes, ok_is}
use Rattle.co_wire.proofs.Public_format.{public_format}
use Rattle.co_rounds.specs.Answers.{reply_with}
use Rattle.co_rounds.specs.Asked.{asked_draw, AreKeywordMessages}
use Rattle.co_rounds.specs.Plans.{plan_of, FollowsPlan}
use Rattle.co_rounds.specs.Placing.{rows_asked}
use Rattle.co_client.specs.declared.fault.SearchFault.{SearchFault}
use Rattle.co_client.specs.declared.fault.SearchFault.TheVariants.{TooManyKeywords, BadPublic, Test, Link, Refused, OutOfMemory}
use Rattle.co_client.specs.declared.publishing.Published.{Published}
use Rattle.co_client.specs.Causes.{Search, IsCause, IsAnswered}
use Rattle.co_client.specs.Faults.{IsManyTerms, IsForFew}
use Rattle.co_client.specs.Earlier.{taken, begun, EndsFirst}
use Rattle.co_client.proofs.Whole_replies.{IsWholeReply, empty_well, none-all, more-all, begun-most}
use Rattle.std.proofs.lemmas.Option.{none-some, same_Some}
use Rattle.co_client.specs.Telling.{Makes, Tells, Told}
use Rattle.co_client.specs.Published.{public_request, Consults, PublicFails}
use Rattle.co_client.specs.Rounds.{Comes, RoundFails, LinkFails, keys_request, queries_request}
use Rattle.co_client.proofs.Messages.{has-messages}
use Rattle.co_client.proofs.Trails.{makes-none, makes-one, makes-same, trail-asks, score_request, IsTrail}
use Rattle.co_client.proofs.Told.{for-few, early-rows, round-told}

-- ---- before any request

no_first : (first : Exchange) (others : List Exchange) → [] ≡ first ∷ others → ⊥
no_first first others e = absurd (omega (arith, ap length e))

nothing-first : (run : Search) (result : Result Found SearchFault) → EndsFirst run [] result
nothing-first run result = record {
  status = λ number e at l. absurd (none-some e at);
  public = λ e place at l bad. none-some e at;
  whole = λ s ts p number e place u at l bad. none-some e at;
  tested = λ s ts p l. absurd (no_first p.first p.others p.are);
  recorded = λ s ts hits fault l h. absurd (omega (arith, l, begun-most result 0));
}

-- what is told where no exchange is made
nothing-tells : (run : Search) (fault : SearchFault) (left : Stream) → (IsAnswered (Err fault) → ⊥) → IsCause run [] fault → IsForFew {X = Found} (length (distinct run.query)) (Err fault) → Tells run [] (Err fault) left
nothing-tells run fault left open_end cause few = record {
  follows = refl;
  whole = λ a. absurd (open_end a);
  read = tt;
  refused = cause;
  asked = λ s ts p t. absurd (no_first p.first p.others p.are);
  goes = record { few = λ l. absurd (omega arith); tested = λ s ts p l. absurd (omega arith); taken = λ number e at l. absurd (omega arith) };
  few = few;
  earlier = nothing-first run (Err fault);
}

many-cause : (run : Search) (fault : SearchFault) → IsManyTerms (length (distinct run.query)) fault → Tells run [] (Err fault) run.stream
many-cause run (TooManyKeywords found) h = nothing-tells run (TooManyKeywords found) run.stream (λ a. a) (h.0, h.1, refl) tt
many-cause run OutOfMemory h = nothing-tells run OutOfMemory run.stream (λ a. a) tt tt
many-cause run fault h = absurd h

pub many-told : (run : Search) (was : Option (List Exchange)) (fault : SearchFault) → IsManyTerms (length (distinct run.query)) fault → Told run was was (Err fault) run.stream
many-told run was fault h = record { exchanges = []; makes = makes-none was; tells = many-cause run fault h }

-- ---- from the published numbers on

abbrev pub first_of : List ℕ → Exchange
first_of body = exchange_of public_request (reply_with 200 body)

-- the numbers are published, and the exchange of them is made; these are the query's terms there, and its others
pub record Begun (run : Search) (was now : Option (List Exchange)) (s : Numbers) (keywords : List ℕ) (unknown : List (List ℕ)) : Type 0 where
  pub terms : List (List ℕ)
  pub body : List ℕ
  pub few : length (distinct run.query) ≤ 16
  pub read : public_of body ≡ Ok (s, terms)
  pub good : ArePublic s terms
  pub passes : test_of s ≡ Ok s
  pub keywords_are : keywords ≡ numbers_of terms (distinct run.query)
  pub unknown_are : unknown ≡ unknown_in terms (distinct run.query)
  pub messages : List (List ℕ)
  pub are : AreKeywordMessages s (numbers_of terms (distinct run.query)) messages
  pub makes : Makes was now (first_of body ∷ [])

pub any-rows : Numbers → List ℕ
any-rows s = rows_asked s [] []

pub any-long : (s : Numbers) → length (any-rows s) ≡ bucket_count s.hits
unfolding any-rows
any-long s = length-map-range_with_len _ 0 (bucket_count s.hits)

one-good : (x : Exchange) → x.reply.status ≡ 200 → All (λ e. e.reply.status ≡ 200) (x ∷ [])
one-good x e zero d l = e
one-good x e (suc i) d l = absurd (omega arith)

two-good : (x y : Exchange) → x.reply.status ≡ 200 → y.reply.status ≡ 200 → All (λ e. e.reply.status ≡ 200) (x ∷ y ∷ [])
two-good x y e f zero d l = e
two-good x y e f (suc i) d l = one-good y f i d (omega arith)

not_keys : targets_of.Keys ≢ targets_of.Public
not_keys e = subst (λ (t : Target). elim t as (λ _. Type 0) [ targets_of.Public ↦ ⊥ | targets_of.Keys ↦ Unit {0} | targets_of.Score ↦ Unit {0} | targets_of.Meta ↦ Unit {0} | targets_of.Document ↦ Unit {0} ]) e tt

not_score : targets_of.Score ≢ targets_of.Public
not_score e = subst (λ (t : Target). elim t as (λ _. Type 0) [ targets_of.Public ↦ ⊥ | targets_of.Keys ↦ Unit {0} | targets_of.Score ↦ Unit {0} | targets_of.Meta ↦ Unit {0} | targets_of.Document ↦ Unit {0} ]) e tt

-- what is read from bytes has a degree
degree-of : (s : Numbers) (ts : List (List ℕ)) → ArePublic s ts → IsDegree s.degree
degree-of s ts p = (ranges s p.good.ranges).degree

read-good : (s : Numbers) (ts : List (List ℕ)) (body : List ℕ) → AreBelow 256 body → public_of body ≡ Ok (s, ts) → ArePublic s ts
unfolding public_of
read-good s ts body bytes e =
    (whole_takes (headed public_word fields) (λ (p : Numbers × List (List ℕ)). public_bytes p.0 p.1) (λ p. ArePublic p.0 p.1) public_format body (s, ts)
    (λ i. ⊎_elim (λ u. bytes i u) (λ u. subst (λ (x : ℕ). x < 256) (sym (get_or_past body i 0 u)) (omega arith)) (cases_lt i (length body))) e).1

pub begun-of : (run : Search) (was now : Option (List Exchange)) (p : Published) → Consults was now p → length (distinct run.query) ≤ 16 → Begun run was now p.tested (numbers_of p.terms (distinct run.query)) (unknown_in p.terms (distinct run.query))
begun-of run was now p c few =
    let s = p.tested in
    let m = has-messages s (numbers_of p.terms (distinct run.query)) (degree-of s p.terms c.public.good) in
    record {
      terms = p.terms;
      body = c.public.body;
      few = few;
      read = c.public.read;
      good = c.public.good;
      passes = c.passes;
      keywords_are = refl;
      unknown_are = refl;
      messages = m.messages;
      are = m.are;
      makes = makes-one was was now [] public_request (reply_with 200 c.public.body) (makes-none was) c.public.comes;
    }

-- ---- the round of the published numbers gives nothing

first-follows : (e : Exchange) → e.request ≡ public_request → FollowsPlan (e ∷ [])
first-follows e is = ap (λ (r : Request). (r.target, length r.body) ∷ []) is ∙ step (public_of e.reply.body)
  where
    step : (r : Result (Numbers × List (List ℕ)) ℕ) → (targets_of.Public, 0) ∷ [] ≡ take 1 (plan_of r)
    step (Ok p) = refl
    step (Err place) = refl

no_result : {A : Type 0} (x : A) (place : ℕ) → Err place ≡ Ok x → ⊥
no_result {A} x place e = subst (λ (r : Result A ℕ). elim r as (λ _. Type 0) [ Ok y ↦ ⊥ | Err p ↦ Unit {0} ]) e tt

-- the one reply is refused
one-refused : (run : Search) (e : Exchange) (fault : SearchFault) → taken (Err fault) 1 ≡ 0 → begun (Err fault) 1 ≡ 1 → EndsFirst run (e ∷ []) (Err fault)
one-refused run e fault t b = record {
  status = λ number x at l. absurd (less number l);
  public = λ x place at l bad. less 0 l;
  whole = λ s ts p number x place u at l bad. less number l;
  tested = λ s ts p l. absurd (few 1 (omega arith) l);
  recorded = λ s ts hits f l h. few 4 (omega arith) l;
}
  where
    less : (number : ℕ) → number < taken (Err fault) 1 → ⊥
    less number l = omega (arith, l, t)

    few : (k : ℕ) → 1 ≤ k → k < begun (Err fault) 1 → ⊥
    few k u l = omega (arith, u, l, b)

-- the numbers fail the test
one-tested : (run : Search) (body : List ℕ) (fault : TestFault) (s : Numbers) (ts : List (List ℕ)) → public_of body ≡ Ok (s, ts) → EndsFirst run (first_of body ∷ []) (Err (Test fault))
one-tested run body fault s ts read = record {
  status = λ number x at l. is_good number x at l;
  public = λ x place at l bad. no_result (s, ts) place (sym bad ∙ ap (λ (e : Exchange). public_of e.reply.body) (sym (same_Some (first_of body) x at)) ∙ read);
  whole = λ s' ts' p number x place u at l bad. omega (arith, u, l);
  tested = λ s' ts' p l. absurd (omega (arith, l));
  recorded = λ s' ts' hits f l h. omega (arith, l);
}
  where
    is_good : (number : ℕ) (x : Exchange) → slice_get (first_of body ∷ []) number ≡ Some x → number < 1 → x.reply.status ≡ 200
    is_good zero x at l = ap (λ (e : Exchange). e.reply.status) (sym (same_Some (first_of body) x at))
    is_good (suc number) x at l = absurd (omega arith)

public-tells : (run : Search) (e : Exchange) (fault : SearchFault) (left : Stream) → e.request ≡ public_request → length (distinct run.query) ≤ 16 → (IsAnswered (Err fault) → ⊥) → IsCause run (e ∷ []) fault → EndsFirst run (e ∷ []) (Err fault)
    → ((s : Numbers) (ts : List (List ℕ)) → public_of e.reply.body ≡ Ok (s, ts) → test_of s ≡ Ok s → IsDegree s.degree) → Tells run (e ∷ []) (Err fault) left
public-tells run e fault left is few open_end cause ends known = record {
  follows = first-follows e is;
  whole = λ a. absurd (open_end a);
  read = tt;
  refused = cause;
  asked = λ s ts p t.
      let read : public_of e.reply.body ≡ Ok (s, ts) = ap (λ (es : List Exchange). public_of (get_or es 0 e).reply.body) p.are ∙ p.read in
      let m = has-messages s (numbers_of ts (distinct run.query)) (known s ts read t) in
      let trail : IsTrail s m.messages (any-rows s) 0 run.stream (e ∷ []) = record { requests = ap (λ (r : Request). r ∷ []) is } in
      let right = early-rows run (e ∷ []) s ts (any-rows s) 0 (omega arith) in
      record {
        rows = any-rows s;
        bin = 0;
        asked = (asked_draw s m.messages (any-rows s) 0 run.stream).0;
        rest = (asked_draw s m.messages (any-rows s) 0 run.stream).1;
        drawn = record { messages = m.messages; spelled = m.are; drawn = refl };
        requests = trail-asks s m.messages (any-rows s) 0 run.stream (e ∷ []) trail;
        placed_rows = right.placed_rows;
        unplaced_rows = right.unplaced_rows;
        picked_bin = right.picked_bin;
        unplaced_bin = right.unplaced_bin;
        left_is = λ a. absurd (open_end a);
      };
  goes = record { few = λ l. few; tested = λ s ts p l. absurd (omega arith); taken = λ number x at l. absurd (omega arith) };
  few = for-few (length (distinct run.query)) few (Err fault);
  earlier = ends;
}

pub public-told : (run : Search) (was now : Option (List Exchange)) (fault : SearchFault) (left : Stream) → length (distinct run.query) ≤ 16 → PublicFails was now fault
    → LinkFails {T = Found} run.before run.now run.last_failed (record { target = targets_of.Public; limit = most_public }) (Err fault) → Told run was now (Err fault) left
public-told run was now (Refused target status) left few h l = record {
  exchanges = exchange_of public_request (reply_with status h.body) ∷ [];
  makes = makes-one was was now [] public_request (reply_with status h.body) (makes-none was) h.comes;
  tells = public-tells run (exchange_of public_request (reply_with status h.body)) (Refused target status) left refl few (λ a. a)
      (record { reply = reply_with status h.body; ends = record { front = []; request = public_request; are = refl; target_is = sym h.target_is }; is = refl; bad = h.bad })
      (one-refused run (exchange_of public_request (reply_with status h.body)) (Refused target status) refl refl)
      (λ s ts read t. degree-of s ts (read-good s ts h.body h.bytes read));
}
public-told run was now (BadPublic place) left few h l = record {
  exchanges = first_of h.body ∷ [];
  makes = makes-one was was now [] public_request (reply_with 200 h.body) (makes-none was) h.comes;
  tells = public-tells run (first_of h.body) (BadPublic place) left refl few (λ a. a)
      (record { body = h.body; ends = record { front = []; request = public_request; are = refl; target_is = refl }; bad = h.bad }) (one-refused run (first_of h.body) (BadPublic place) refl refl)
      (λ s ts read t. absurd (no_result (s, ts) place (sym h.bad ∙ read)));
}
public-told run was now (Test fault) left few h l = record {
  exchanges = first_of h.public.body ∷ [];
  makes = makes-one was was now [] public_request (reply_with 200 h.public.body) (makes-none was) h.public.comes;
  tells = public-tells run (first_of h.public.body) (Test fault) left refl few (λ a. a)
      (record { shape = h.shape; terms = h.terms; published = record { first = first_of h.public.body; others = []; are = refl; read = h.public.read }; fails = h.fails; alone = refl }) (one-tested run h.public.body fault h.shape h.terms h.public.read)
      (λ s ts read t. degree-of s ts (subst (λ (x : Numbers × List (List ℕ)). ArePublic x.0 x.1) (ok_is (h.shape, h.terms) (s, ts) (sym h.public.read ∙ read)) h.public.good));
}
public-told run was now Link left few h l =
    let cause = l.failed refl in
    let unmade : IsCause run [] Link = record {
      rose = cause.0;
      call = record { target = targets_of.Public; limit = most_public };
      next = record { next = refl; first = λ e. refl; later = λ s ts p. absurd (no_first p.first p.others p.are) };
      is = cause.1;
    } in
    record { exchanges = []; makes = makes-same was was now [] (makes-none was) h; tells = nothing-tells run Link left (λ a. a) unmade few }
public-told run was now OutOfMemory left few (inl h) l = record { exchanges = []; makes = makes-same was was now [] (makes-none was) h; tells = nothing-tells run OutOfMemory left (λ a. a) tt tt }
public-told run was now OutOfMemory left few (inr h) l = record {
  exchanges = first_of h.body ∷ [];
  makes = makes-one was was now [] public_request (reply_with 200 h.body) (makes-none was) h.comes;
  tells = public-tells run (first_of h.body) OutOfMemory left refl few (λ a. a) tt (one-refused run (first_of h.body) OutOfMemory refl refl) (λ s ts read t. degree-of s ts (read-good s ts h.body h.bytes read));
}
public-told run was now fault left few h l = absurd h

-- ---- the round of the keys gives nothing

pub keys-told : (run : Search) (was mid now : Option (List Exchange)) (s : Numbers) (keywords : List ℕ) (unknown : List (List ℕ)) (before : ℕ) (fault : SearchFault) (left : Stream) → Begun run was mid s keywords unknown → RoundFails 0 mid now (keys_request s run.stream) fault
    → LinkFails {T = Found} before run.now run.last_failed (record { target = targets_of.Keys; limit = reply_limit s targets_of.Keys }) (Err fault) → run.before ≤ before → Told run was now (Err fault) left
unfolding keys_request
keys-told run was mid now s keywords unknown before fault left b h l early =
    let first = first_of b.body in
    let trail : IsTrail s b.messages (any-rows s) 0 run.stream (first ∷ []) = record { requests = refl } in
    round-told run s b.terms b.messages first (any-rows s) 0 b.few b.read b.passes b.are (any-long s) [] trail (early-rows run (first ∷ []) s b.terms (any-rows s) 0 (omega arith)) (one-good first refl) (none-all (IsWholeReply s))
    (keys_request s run.stream) 0 was mid now before left (λ reply. record { requests = refl }) (λ reply. early-rows run (first ∷ exchange_of (keys_request s run.stream) reply ∷ []) s b.terms (any-rows s) 0 (omega arith))
    refl not_keys refl b.makes early (λ u. absurd (omega arith)) (λ reply u. absurd (omega arith)) fault h l

-- the keys are handed over
abbrev pub keys_of : Numbers → Stream → Exchange
keys_of s stream = exchange_of (keys_request s stream) (reply_with 200 [])

pub keys-whole : (s : Numbers) (stream : Stream) → IsWholeReply s (keys_of s stream)
unfolding keys_request
keys-whole s stream place = empty_well [] place refl

-- the round of the scores gives nothing
pub scores-told : (run : Search) (was mid next now : Option (List Exchange)) (s : Numbers) (keywords : List ℕ) (unknown : List (List ℕ)) (before : ℕ) (fault : SearchFault) (left : Stream) (b : Begun run was mid s keywords unknown) → Comes mid next (keys_request s run.stream) (reply_with 200 [])
    → RoundFails (reply_size s targets_of.Score) next now (score_request s b.messages run.stream) fault
    → LinkFails {T = Found} before run.now run.last_failed (record { target = targets_of.Score; limit = reply_limit s targets_of.Score }) (Err fault) → run.before ≤ before → Told run was now (Err fault) left
unfolding keys_request queries_request
scores-told run was mid next now s keywords unknown before fault left b came h l early =
    let first = first_of b.body in
    let second = keys_of s run.stream in
    let trail : IsTrail s b.messages (any-rows s) 0 run.stream (first ∷ second ∷ []) = record { requests = refl } in
    round-told run s b.terms b.messages first (any-rows s) 0 b.few b.read b.passes b.are (any-long s) (second ∷ []) trail (early-rows run (first ∷ second ∷ []) s b.terms (any-rows s) 0 (omega arith)) (two-good first second refl refl) (more-all (IsWholeReply s) second [] (keys-whole s run.stream) (none-all (IsWholeReply s)))
    (score_request s b.messages run.stream) (reply_size s targets_of.Score) was next now before left (λ reply. record { requests = refl })
    (λ reply. early-rows run (first ∷ second ∷ exchange_of (score_request s b.messages run.stream) reply ∷ []) s b.terms (any-rows s) 0 (omega arith))
    refl not_score refl (makes-one was mid next (first ∷ []) (keys_request s run.stream) (reply_with 200 []) b.makes came) early (λ u. absurd (omega arith)) (λ reply u. absurd (omega arith)) fault h l
