-- What a search tells where it ends: one round after another.
use Rattle.std.proofs.Common.{◌≡◌, ◌≢◌, ℕ, zero, suc, ◌+◌, ◌-◌, ◌<◌, ◌≤◌, inl, inr, refl, sym, ap, subst, ◌∙◌, arith, List, [], ◌∷◌, ◌++◌, length, Option, Some, Result, Ok, Err}
use Rattle.std.specs.Prelude.{All, IfOk, IfErr, slice_get}
use Rattle.std.proofs.lemmas.Option.{same_Some}
use Rattle.rand_core.specs.Stream.{Stream}
use Rattle.co_link.specs.Exchanges.{LinkCall, exchange_of}
use Rattle.co_link.specs.declared.messages.Target.{Target}
use Rattle.co_link.specs.declared.messages.Target.TheVariants as targets_of
use Rattle.co_link.specs.declared.messages.Request.{Request}
use Rattle.co_link.specs.declared.messages.Reply.{Reply}
use Rattle.co_link.specs.declared.messages.Exchange.{Exchange}
use Rattle.co_noise.specs.Shapes.{Numbers}
use Rattle.co_noise.specs.Bounds.{test_of}
use Rattle.co_bucket.specs.Lists.{bucket_count}
use Rattle.co_bucket.specs.Placement.{IsPlacement}
use Rattle.co_text.specs.Terms.{distinct}
use Rattle.co_text.specs.Numbers.{numbers_of}
use Rattle.co_text.specs.declared.found.Found.{Found}
use Rattle.co_text.specs.declared.ranks.Ranked.{Ranked}
use Rattle.co_pack.specs.declared.records.Record.{Record}
use Rattle.co_wire.specs.Public.{public_of}
use Rattle.co_wire.specs.Lengths.{reply_size, reply_limit}
use Rattle.co_rounds.specs.Answers.{reply_with}
use Rattle.co_rounds.specs.Asked.{asked_draw, AreKeywordMessages}
use Rattle.co_rounds.specs.Plans.{targets, made}
use Rattle.co_rounds.specs.Placing.{choices_of, rows_asked, IsUnplaced}
use Rattle.co_client.specs.declared.fault.SearchFault.{SearchFault}
use Rattle.co_client.specs.declared.fault.SearchFault.TheVariants.{TooManyKeywords, Link, Refused, BadReply, OutOfMemory}
use Rattle.co_client.specs.Causes.{Search, Publishes, IsRead, IsCause, IsAnswered, Asks, ReadsHits, ReadsRecords}
use Rattle.co_client.specs.Going.{GoesOn}
use Rattle.co_client.specs.Earlier.{taken, begun, EndsFirst}
use Rattle.co_client.specs.Faults.{IsForFew}
use Rattle.co_client.specs.Telling.{Makes, Tells, Told}
use Rattle.co_client.specs.Openings.{IsBadReply}
use Rattle.co_client.specs.Records.{picked_record, bin_asked}
use Rattle.co_client.specs.Rounds.{Comes, RoundFails, RefusesBody, LinkFails}
use Rattle.co_client.proofs.Trails.{makes-one, makes-same, made-are, after_all, IsTrail, trail-follows, trail-whole, trail-asks, asked-rest}
use Rattle.co_client.proofs.Unique.{publishes-one}
use Rattle.co_client.proofs.Whole_replies.{IsWholeReply, got-within, front-within}

-- ---- few terms

pub for-few : (number : ℕ) → number ≤ 16 → (result : Result Found SearchFault) → IsForFew number result
for-few number few (Err (TooManyKeywords found)) = tt
for-few number few (Err OutOfMemory) = tt
for-few number few result = few

-- ---- rows and bin

pub record AreRowsOf (run : Search) (es : List Exchange) (s : Numbers) (ts : List (List ℕ)) (rows : List ℕ) (bin : ℕ) : Type 0 where
  pub placed_rows : 3 < length es → (hits : List Ranked) (placed : List (Option ℕ)) → ReadsHits run es s ts hits → IsPlacement (choices_of s hits) (bucket_count s.hits) placed → rows ≡ rows_asked s hits placed
  pub unplaced_rows : 3 < length es → (hits : List Ranked) (documents buckets : List ℕ) → ReadsHits run es s ts hits → IsUnplaced s hits documents buckets → rows ≡ rows_asked s hits []
  pub picked_bin : 4 < length es → (hits : List Ranked) (records : List Record) → ReadsRecords run es s ts hits (Ok records) → bin ≡ bin_asked (picked_record records run.pick)
  pub unplaced_bin : 4 < length es → (hits : List Ranked) (documents buckets : List ℕ) → ReadsHits run es s ts hits → IsUnplaced s hits documents buckets → bin ≡ 0

-- before records are asked for, any rows will do
pub early-rows : (run : Search) (es : List Exchange) (s : Numbers) (ts : List (List ℕ)) (rows : List ℕ) (bin : ℕ) → length es ≤ 3 → AreRowsOf run es s ts rows bin
early-rows run es s ts rows bin l = record {
  placed_rows = λ u. absurd (omega arith);
  unplaced_rows = λ u. absurd (omega arith);
  picked_bin = λ u. absurd (omega arith);
  unplaced_bin = λ u. absurd (omega arith);
}

-- ---- a search whose numbers are known

module _ (run : Search) (s : Numbers) (ts ms : List (List ℕ)) (first : Exchange) (rows : List ℕ) (bin : ℕ) (few : length (distinct run.query) ≤ 16) (read : public_of first.reply.body ≡ Ok (s, ts)) (passes : test_of s ≡ Ok s)
    (messages : AreKeywordMessages s (numbers_of ts (distinct run.query)) ms) (long : length rows ≡ bucket_count s.hits) where
  asks : (es : List Exchange) (result : Result Found SearchFault) (left : Stream) → IsTrail s ms rows bin run.stream es → AreRowsOf run es s ts rows bin → (IsAnswered result → left ≡ after_all s ms rows bin run.stream) → Asks run es s ts result left
  asks es result left trail right last = record {
    rows = rows;
    bin = bin;
    asked = (asked_draw s ms rows bin run.stream).0;
    rest = (asked_draw s ms rows bin run.stream).1;
    drawn = record { messages = ms; spelled = messages; drawn = refl };
    requests = trail-asks s ms rows bin run.stream es trail;
    placed_rows = right.placed_rows;
    unplaced_rows = right.unplaced_rows;
    picked_bin = right.picked_bin;
    unplaced_bin = right.unplaced_bin;
    left_is = λ a. last a ∙ asked-rest s ms rows bin run.stream;
  }

  asks-any : (others : List Exchange) (result : Result Found SearchFault) (left : Stream) → Asks run (first ∷ others) s ts result left
      → (s' : Numbers) (ts' : List (List ℕ)) → Publishes (first ∷ others) s' ts' → test_of s' ≡ Ok s' → Asks run (first ∷ others) s' ts' result left
  asks-any others result left h s' ts' p t = subst (λ (x : Numbers × List (List ℕ)). Asks run (first ∷ others) x.0 x.1 result left) (publishes-one s ts first others read s' ts' p) h

  published : (others : List Exchange) → Publishes (first ∷ others) s ts
  published others = record { first = first; others = others; are = refl; read = read }

  goes-on : (others : List Exchange) → ((number : ℕ) (e : Exchange) → slice_get (first ∷ others) number ≡ Some e → number + 1 < length (first ∷ others) → e.reply.status ≡ 200) → GoesOn run (first ∷ others)
  goes-on others taken = record {
    few = λ l. few;
    tested = λ s' ts' p l. subst (λ (x : Numbers × List (List ℕ)). test_of x.0 ≡ Ok x.0) (publishes-one s ts first others read s' ts' p) passes;
    taken = taken;
  }

  not_read : (place : ℕ) → ◌≡◌ {A = Result (Numbers × List (List ℕ)) ℕ} (Err place) (Ok (s, ts)) → ⊥
  not_read place e = absurd cc

  -- the end is at the first cause
  ends-first : (others : List Exchange) (result : Result Found SearchFault) → ((number : ℕ) (e : Exchange) → slice_get (first ∷ others) number ≡ Some e → number < taken result (length (first ∷ others)) → e.reply.status ≡ 200)
      → ((number : ℕ) (e : Exchange) → slice_get others number ≡ Some e → number + 1 < taken result (length (first ∷ others)) → IsWholeReply s e)
      → (4 < begun result (length (first ∷ others)) → (hits : List Ranked) (fault : SearchFault) → ReadsRecords run (first ∷ others) s ts hits (Err fault) → ⊥) → EndsFirst run (first ∷ others) result
  ends-first others result status sound recorded = record {
    status = status;
    public = λ e place at u bad. not_read place (sym bad ∙ ap (λ (x : Exchange). public_of x.reply.body) (sym (same_Some first e at)) ∙ read);
    whole = λ s' ts' p number e place. whole-at s' ts' p number e place;
    tested = λ s' ts' p l. subst (λ (x : Numbers × List (List ℕ)). test_of x.0 ≡ Ok x.0) (publishes-one s ts first others read s' ts' p) passes;
    recorded = λ s' ts' hits fault l h.
        subst (λ (x : Numbers × List (List ℕ)). ReadsRecords run (first ∷ others) x.0 x.1 hits (Err fault) → ⊥) (publishes-one s ts first others read s' ts' h.ranked.published) (recorded l hits fault) h;
  }
    where
      whole-at : (s' : Numbers) (ts' : List (List ℕ)) → Publishes (first ∷ others) s' ts' → (number : ℕ) (e : Exchange) (place : ℕ) → 0 < number → slice_get (first ∷ others) number ≡ Some e → number < taken result (length (first ∷ others))
          → IsBadReply (reply_size s' e.request.target) e.reply.body place → ⊥
      whole-at s' ts' p zero e place u at l bad = absurd (omega arith)
      whole-at s' ts' p (suc number) e place u at l bad =
          subst (λ (x : Numbers × List (List ℕ)). IsBadReply (reply_size x.0 e.request.target) e.reply.body place → ⊥) (publishes-one s ts first others read s' ts' p) (sound number e at (omega arith) place) bad

  -- the exchanges so far, and the next request
  module _ (qs : List Exchange) (trail : IsTrail s ms rows bin run.stream (first ∷ qs)) (right : AreRowsOf run (first ∷ qs) s ts rows bin) (good : All (λ e. e.reply.status ≡ 200) (first ∷ qs)) (sound : All (IsWholeReply s) qs) where
    -- an end that comes with no further exchange, and is no answer
    pub tells-here : (result : Result Found SearchFault) (left : Stream) → (IsAnswered result → ⊥) → IfOk result (IsRead run (first ∷ qs)) → IfErr result (IsCause run (first ∷ qs))
        → (4 < begun result (length (first ∷ qs)) → (hits : List Ranked) (fault : SearchFault) → ReadsRecords run (first ∷ qs) s ts hits (Err fault) → ⊥) → Tells run (first ∷ qs) result left
    tells-here result left open_end ok cause recorded = record {
      follows = trail-follows s ts ms rows bin run.stream first qs messages.count long read trail;
      whole = λ a. absurd (open_end a);
      read = ok;
      refused = cause;
      asked = asks-any qs result left (asks (first ∷ qs) result left trail right (λ a. absurd (open_end a)));
      goes = goes-on qs (λ number e at l. got-within (λ (x : Exchange). x.reply.status ≡ 200) (first ∷ qs) number e good at);
      few = for-few (length (distinct run.query)) few result;
      earlier = ends-first qs result (λ number e at l. got-within (λ (x : Exchange). x.reply.status ≡ 200) (first ∷ qs) number e good at) (λ number e at l. got-within (IsWholeReply s) qs number e sound at) recorded;
    }

    -- all five exchanges were made
    pub tells-all : (result : Result Found SearchFault) (left : Stream) → length (first ∷ qs) ≡ 5 → left ≡ after_all s ms rows bin run.stream → IfOk result (IsRead run (first ∷ qs)) → IfErr result (IsCause run (first ∷ qs))
        → (4 < begun result (length (first ∷ qs)) → (hits : List Ranked) (fault : SearchFault) → ReadsRecords run (first ∷ qs) s ts hits (Err fault) → ⊥) → Tells run (first ∷ qs) result left
    tells-all result left five last ok cause recorded = record {
      follows = trail-follows s ts ms rows bin run.stream first qs messages.count long read trail;
      whole = λ a. trail-whole s ts ms rows bin run.stream first qs messages.count long read five trail;
      read = ok;
      refused = cause;
      asked = asks-any qs result left (asks (first ∷ qs) result left trail right (λ a. last));
      goes = goes-on qs (λ number e at l. got-within (λ (x : Exchange). x.reply.status ≡ 200) (first ∷ qs) number e good at);
      few = for-few (length (distinct run.query)) few result;
      earlier = ends-first qs result (λ number e at l. got-within (λ (x : Exchange). x.reply.status ≡ 200) (first ∷ qs) number e good at) (λ number e at l. got-within (IsWholeReply s) qs number e sound at) recorded;
    }

    -- an end with one further exchange, whatever its reply, that is no answer
    tells-one : (r : Request) (reply : Reply) (fault : SearchFault) (left : Stream) → IsTrail s ms rows bin run.stream (first ∷ (qs ++ exchange_of r reply ∷ [])) → AreRowsOf run (first ∷ (qs ++ exchange_of r reply ∷ [])) s ts rows bin
        → (IsAnswered (Err fault) → ⊥) → IsCause run (first ∷ (qs ++ exchange_of r reply ∷ [])) fault → ((n : ℕ) → taken (Err fault) n ≡ n - 1) → ((n : ℕ) → begun (Err fault) n ≡ n)
        → (4 < length (first ∷ (qs ++ exchange_of r reply ∷ [])) → (hits : List Ranked) (f : SearchFault) → ReadsRecords run (first ∷ (qs ++ exchange_of r reply ∷ [])) s ts hits (Err f) → ⊥) → Tells run (first ∷ (qs ++ exchange_of r reply ∷ [])) (Err fault) left
    tells-one r reply fault left more right_more open_end cause but_last no_more recorded = record {
      follows = trail-follows s ts ms rows bin run.stream first (qs ++ exchange_of r reply ∷ []) messages.count long read more;
      whole = λ a. absurd (open_end a);
      read = tt;
      refused = cause;
      asked = asks-any (qs ++ exchange_of r reply ∷ []) (Err fault) left (asks (first ∷ (qs ++ exchange_of r reply ∷ [])) (Err fault) left more right_more (λ a. absurd (open_end a)));
      goes = goes-on (qs ++ exchange_of r reply ∷ []) (λ number e at l. front-within (λ (x : Exchange). x.reply.status ≡ 200) (first ∷ qs) (exchange_of r reply) number e good at l);
      few = for-few (length (distinct run.query)) few (Err fault);
      earlier = ends-first (qs ++ exchange_of r reply ∷ []) (Err fault)
          (λ number e at l. front-within (λ (x : Exchange). x.reply.status ≡ 200) (first ∷ qs) (exchange_of r reply) number e good at (omega (arith, l, but_last (length (first ∷ (qs ++ exchange_of r reply ∷ []))))))
          (λ number e at l. front-within (IsWholeReply s) qs (exchange_of r reply) number e sound at (omega (arith, l, but_last (length (first ∷ (qs ++ exchange_of r reply ∷ []))))))
          (λ l. recorded (omega (arith, l, no_more (length (first ∷ (qs ++ exchange_of r reply ∷ []))))));
    }

    -- a round that gives nothing
    module _ (r : Request) (size : ℕ) (was mid now : Option (List Exchange)) (before : ℕ) (left : Stream) (more : (reply : Reply) → IsTrail s ms rows bin run.stream (first ∷ (qs ++ exchange_of r reply ∷ [])))
        (right_more : (reply : Reply) → AreRowsOf run (first ∷ (qs ++ exchange_of r reply ∷ [])) s ts rows bin) (next : slice_get targets (length (first ∷ qs)) ≡ Some r.target) (later : r.target ≢ targets_of.Public) (sized : size ≡ reply_size s r.target)
        (makes : Makes was mid (first ∷ qs)) (earlier : run.before ≤ before)
        (recorded : 4 < length (first ∷ qs) + 1 → (hits : List Ranked) (f : SearchFault) → ReadsRecords run (first ∷ qs) s ts hits (Err f) → ⊥)
        (recorded_more : (reply : Reply) → 4 < length (first ∷ (qs ++ exchange_of r reply ∷ [])) → (hits : List Ranked) (f : SearchFault) → ReadsRecords run (first ∷ (qs ++ exchange_of r reply ∷ [])) s ts hits (Err f) → ⊥) where
      one-made : (reply : Reply) → Comes mid now r reply → Makes was now (first ∷ (qs ++ exchange_of r reply ∷ []))
      one-made reply c = makes-one was mid now (first ∷ qs) r reply makes c

      bad_reply : (target : Target) (place : ℕ) (h : RefusesBody size mid now r target place) → IsBadReply (reply_size s target) h.body place
      bad_reply target place h = subst (λ (k : ℕ). IsBadReply k h.body place) (sized ∙ ap (reply_size s) (sym h.target_is)) h.bad

      pub round-told : (fault : SearchFault) → RoundFails size mid now r fault → LinkFails {T = Found} before run.now run.last_failed (record { target = r.target; limit = reply_limit s r.target }) (Err fault) → Told run was now (Err fault) left
      round-told (Refused target status) h l = record {
        exchanges = first ∷ (qs ++ exchange_of r (reply_with status h.body) ∷ []);
        makes = one-made (reply_with status h.body) h.comes;
        tells = tells-one r (reply_with status h.body) (Refused target status) left (more (reply_with status h.body)) (right_more (reply_with status h.body)) (λ a. a)
            (record { reply = reply_with status h.body; ends = record { front = first ∷ qs; request = r; are = refl; target_is = sym h.target_is }; is = refl; bad = h.bad }) (λ n. refl) (λ n. refl) (recorded_more (reply_with status h.body));
      }
      round-told (BadReply target place) h l = record {
        exchanges = first ∷ (qs ++ exchange_of r (reply_with 200 h.body) ∷ []);
        makes = one-made (reply_with 200 h.body) h.comes;
        tells = tells-one r (reply_with 200 h.body) (BadReply target place) left (more (reply_with 200 h.body)) (right_more (reply_with 200 h.body)) (λ a. a)
            (record {
              shape = s;
              terms = ts;
              published = published (qs ++ exchange_of r (reply_with 200 h.body) ∷ []);
              body = h.body;
              ends = record { front = first ∷ qs; request = r; are = refl; target_is = sym h.target_is };
              later = λ e. later (sym h.target_is ∙ e);
              bad = bad_reply target place h;
            }) (λ n. refl) (λ n. refl) (recorded_more (reply_with 200 h.body));
      }
      round-told Link h l =
          let call : LinkCall = record { target = r.target; limit = reply_limit s r.target } in
          let cause = l.failed refl in
          record {
            exchanges = first ∷ qs;
            makes = makes-same was mid now (first ∷ qs) makes h;
            tells = tells-here (Err Link) left (λ a. a) tt
                (record {
                  rose = omega (arith, cause.0, earlier);
                  call = call;
                  next = record {
                    next = next;
                    first = λ e. absurd (omega (arith, ap length e));
                    later = λ s' ts' p. subst (λ (x : Numbers × List (List ℕ)). call.limit ≡ reply_limit x.0 call.target) (publishes-one s ts first qs read s' ts' p) refl;
                  };
                  is = cause.1;
                }) recorded;
          }
      round-told OutOfMemory (inl h) l = record {
        exchanges = first ∷ qs;
        makes = makes-same was mid now (first ∷ qs) makes h;
        tells = tells-here (Err OutOfMemory) left (λ a. a) tt tt (λ l. recorded (omega (arith, l)));
      }
      round-told OutOfMemory (inr h) l = record {
        exchanges = first ∷ (qs ++ exchange_of r h.reply ∷ []);
        makes = one-made h.reply h.comes;
        tells = tells-one r h.reply OutOfMemory left (more h.reply) (right_more h.reply) (λ a. a) tt (λ n. refl) (λ n. refl) (recorded_more h.reply);
      }
      round-told fault h l = absurd h

-- ---- the clauses of a search

pub told-at : (run : Search) (was now : Option (List Exchange)) (result : Result Found SearchFault) (left : Stream) → Told run was now result left → (es : List Exchange) → made was now ≡ Some es → Tells run es result left
told-at run was now result left h es e = subst (λ (xs : List Exchange). Tells run xs result left) (made-are was now h.exchanges es h.makes e) h.tells
