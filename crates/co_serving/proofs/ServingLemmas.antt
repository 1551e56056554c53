-- The conversation so far, and what the next message makes of it.
use Rattle.std.proofs.Common.{◌≡◌, ℕ, ◌+◌, ◌<◌, Bool, true, false, List, [], ◌∷◌, ◌++◌, length, take, Option, Some, None, Result, Ok, Err, refl, sym, ap, ◌∙◌, subst, inl, inr, arith, append_assoc, length-append, cond}
use Rattle.std.specs.Prelude.{IfSome, ◌==◌}
use Rattle.co_link.specs.declared.messages.Target.{Target}
use Rattle.co_link.specs.declared.messages.Request.{Request}
use Rattle.co_link.specs.declared.messages.Reply.{Reply}
use Rattle.std.proofs.lemmas.Bool.{eqb-true, eqb-false}
use Rattle.co_http.proofs.Related.{if_some}
use Rattle.co_serving.specs.declared.response.Response.{Response}
use Rattle.co_serving.specs.declared.ended.Ended.{Ended}
use Rattle.co_serving.specs.declared.ended.Ended.TheVariants.{Closed, Refused, Cut, Spent, ReadFault, WriteFault, OutOfMemory}
use Rattle.co_serving.specs.Conversation.{closes, status_of, response_at, responses, AreOpen, Turns, Responds, Serves, closing_end, most_responses}
use Rattle.co_serving.specs.Reading.{Answered, Broken, ServesMessage, OfReading, EndsReading, SoFar, TurnsTo}
use Rattle.co_serving.proofs.TurnLemmas.{stays_open, closes_with, responses_more, stay_more, turns_more, turns_front, turns_shorter}

-- a fact of both told values, made of another
if_both : (o p : Option (List ℕ)) (P Q : List ℕ → List ℕ → Type 0) → ((x y : List ℕ) → P x y → Q x y) → IfSome o (λ x. IfSome p (λ y. P x y)) → IfSome o (λ x. IfSome p (λ y. Q x y))
if_both None p P Q make holds = tt
if_both (Some x) None P Q make holds = tt
if_both (Some x) (Some y) P Q make holds = make x y holds

-- a fact of both told values, at what they are known to be
at_both : {o p : Option (List ℕ)} {x y : List ℕ} (P : List ℕ → List ℕ → Type 0) → o ≡ Some x → p ≡ Some y → IfSome o (λ x. IfSome p (λ y. P x y)) → P x y
at_both {o} {p} {x} {y} P is_x is_y holds =
    let Q : Option (List ℕ) → Type 0 = λ o. IfSome o (λ x. IfSome p (λ y. P x y)) in
    let R : Option (List ℕ) → Type 0 = λ p. IfSome p (λ y. P x y) in
    subst R is_y (subst Q is_x holds)

-- the responses after one more
responds_more : (answers : List Response) (a : Response) (put : List ℕ) (now : Option (List ℕ)) (requests : ℕ)
    → requests ≡ length answers → now ≡ Some ((put ++ responses 0 answers) ++ response_at requests a) → Responds (answers ++ a ∷ []) put now (requests + 1)
responds_more answers a put now requests number output = let same : requests ≡ 0 + length answers = omega arith in record {
  output = output ∙ ap Some (append_assoc put (responses 0 answers) (response_at requests a) ∙ ap (λ rest. put ++ rest) (ap (λ n. responses 0 answers ++ response_at n a) (same) ∙ sym (responses_more 0 answers a)));
  number = omega (arith, length-append answers (a ∷ []));
}

-- the message was answered, and the connection stays open
so_far_more : {S : Type 0} (wanted : S → Target → ℕ) (steps : S → Request → Reply → S → Type 0) (s t u : S) (unread now unread_new left_new now_new : Option (List ℕ)) (requests : ℕ) (input put : List ℕ)
    → ServesMessage wanted steps t u unread unread_new left_new now now_new requests (Ok None)
    → SoFar wanted steps s t input unread put now requests
    → SoFar wanted steps s u input unread_new put now_new (requests + 1)
so_far_more wanted steps s t u unread now unread_new left_new now_new requests input put serves far =
    let m = at_both (λ input before. Answered wanted steps t u input unread_new before now_new requests None) far.unread_is far.responds.output serves in
    let stays = stays_open m.answer (sym m.closing_is) in
    record {
      answers = far.answers ++ m.answer ∷ [];
      rest = m.rest;
      turns = turns_more wanted steps s t u input far.rest m.rest far.answers m.answer far.turns far.stay m.turn;
      stay = stay_more far.answers m.answer far.stay stays;
      unread_is = m.stays stays;
      responds = responds_more far.answers m.answer put now_new requests far.responds.number m.output;
    }

closed_as : {S : Type 0} (wanted : S → Target → ℕ) (steps : S → Request → Reply → S → Type 0) (s u : S) (input rest : List ℕ) (left : Option (List ℕ)) (put : List ℕ) (now : Option (List ℕ)) (answers : List Response) (a : Response) (requests status : ℕ)
    → requests < most_responses → requests ≡ length answers → Turns wanted steps s input (answers ++ a ∷ []) u rest → closes a ≡ true → status ≡ status_of a
    → Responds (answers ++ a ∷ []) put now (requests + 1) → (b : Bool) → (requests + 1 == most_responses) ≡ b
    → Serves wanted steps s u input left put now (requests + 1) (cond b Spent (Refused status))
closed_as wanted steps s u input rest left put now answers a requests status few number turns closing is responds true last =
    let all : requests + 1 ≡ most_responses = eqb-true (requests + 1) most_responses last in
    (answers ++ a ∷ [], rest, turns, omega (arith, length-append answers (a ∷ [])), responds)
closed_as wanted steps s u input rest left put now answers a requests status few number turns closing is responds false last =
    let more = eqb-false (requests + 1) most_responses last in
    (answers, a, rest, turns, closing, is, omega (arith, more), responds)

-- the message was answered, and the response closed the connection
so_far_closed : {S : Type 0} (wanted : S → Target → ℕ) (steps : S → Request → Reply → S → Type 0) (s t u : S) (unread now unread_new left_new now_new : Option (List ℕ)) (requests status : ℕ) (input put : List ℕ)
    → requests < most_responses → ServesMessage wanted steps t u unread unread_new left_new now now_new requests (Ok (Some status))
    → SoFar wanted steps s t input unread put now requests
    → Serves wanted steps s u input left_new put now_new (requests + 1) (closing_end (requests + 1) status)
so_far_closed wanted steps s t u unread now unread_new left_new now_new requests status input put few serves far =
    let m = at_both (λ input before. Answered wanted steps t u input unread_new before now_new requests (Some status)) far.unread_is far.responds.output serves in
    let closing = closes_with m.answer status (sym m.closing_is) in
    let turns = turns_more wanted steps s t u input far.rest m.rest far.answers m.answer far.turns far.stay m.turn in
    let responds = responds_more far.answers m.answer put now_new requests far.responds.number m.output in
    closed_as wanted steps s u input m.rest left_new put now_new far.answers m.answer requests status few far.responds.number turns closing.0 closing.1 responds (requests + 1 == most_responses) refl

ended_reading : {S : Type 0} (wanted : S → Target → ℕ) (steps : S → Request → Reply → S → Type 0) (s u : S) (input rest : List ℕ) (left : Option (List ℕ)) (put : List ℕ) (now : Option (List ℕ)) (answers : List Response) (requests : ℕ) (ended : Ended)
    → OfReading ended → Turns wanted steps s input answers u rest → AreOpen answers → length answers < most_responses → Responds answers put now requests
    → EndsReading (wanted u) rest left ended → Serves wanted steps s u input left put now requests ended
ended_reading wanted steps s u input rest left put now answers requests Closed of turns stay few responds ends =
    let P : List ℕ → Type 0 = λ rest. Turns wanted steps s input answers u rest in
    (answers, record { turns = subst P ends turns; stay = stay; few = few }, responds)
ended_reading wanted steps s u input rest left put now answers requests Cut of turns stay few responds ends =
    (answers, rest, record { turns = turns; stay = stay; few = few }, ends.0, ends.1, responds)
ended_reading wanted steps s u input rest None put now answers requests ReadFault of turns stay few responds ends = absurd ends
ended_reading {S} wanted steps s u input rest (Some more) put now answers requests ReadFault of turns stay few responds (cut, parts, none) =
    let front = turns_front wanted steps s u input answers rest turns stay in
    let whole : input ≡ (front.0 ++ cut) ++ more = front.1 ∙ ap (λ r. front.0 ++ r) parts ∙ sym (append_assoc front.0 cut more) in
    let P : List ℕ → Type 0 = λ rest. Turns wanted steps s input answers u rest in
    let Q : List ℕ → Type 0 = λ input. Turns wanted steps s input answers u (cut ++ more) in
    let shorter = turns_shorter wanted steps s u (front.0 ++ cut) answers cut more (subst Q whole (subst P parts turns)) stay in
    (answers, responds, (front.0 ++ cut, cut, whole, record { turns = shorter; stay = stay; few = few }, none))
ended_reading wanted steps s u input rest left put now answers requests (Refused status) of turns stay few responds ends = absurd of
ended_reading wanted steps s u input rest left put now answers requests Spent of turns stay few responds ends = absurd of
ended_reading wanted steps s u input rest left put now answers requests WriteFault of turns stay few responds ends = absurd of
ended_reading wanted steps s u input rest left put now answers requests OutOfMemory of turns stay few responds ends = absurd of

-- no message was answered, or putting failed
so_far_ended : {S : Type 0} (wanted : S → Target → ℕ) (steps : S → Request → Reply → S → Type 0) (s t u : S) (unread now unread_new left_new now_after : Option (List ℕ)) (requests : ℕ) (ended : Ended) (input put : List ℕ)
    → requests < most_responses → ServesMessage wanted steps t u unread unread_new left_new now now_after requests (Err ended)
    → SoFar wanted steps s t input unread put now requests
    → Serves wanted steps s u input left_new put now_after requests ended
so_far_ended wanted steps s t u unread now unread_new left_new now_after requests ended input put few (inl (is, told)) far =
    let m = at_both (λ input before. Broken wanted steps t u input before now_after requests) far.unread_is far.responds.output told in
    let P : ℕ → Type 0 = λ count. Broken wanted steps t u far.rest (put ++ responses 0 far.answers) now_after count in
    let b = subst P far.responds.number m in
    let Q : Ended → Type 0 = λ ended. Serves wanted steps s u input left_new put now_after requests ended in
    let turns = turns_more wanted steps s t u input far.rest b.rest far.answers b.answer far.turns far.stay b.turn in
    subst Q (sym is) (
      far.answers,
      b.answer,
      b.rest,
      b.n,
      turns,
      omega (arith, far.responds.number),
      b.part,
      b.output ∙ ap Some (append_assoc put (responses 0 far.answers) (take b.n (response_at (length far.answers) b.answer))),
      far.responds.number,
    )
so_far_ended {S} wanted steps s t u unread now unread_new left_new now_after requests ended input put few (inr (of, same, output, told)) far =
    let P : S → Type 0 = λ t. Turns wanted steps s input far.answers t far.rest in
    let Q : S → Type 0 = λ t. EndsReading (wanted t) far.rest left_new ended in
    let ends = if_some (λ input. EndsReading (wanted t) input left_new ended) far.unread_is told in
    ended_reading wanted steps s u input far.rest left_new put now_after far.answers requests ended of (subst P (sym same) far.turns) far.stay
    (omega (arith, far.responds.number)) (record { output = output ∙ far.responds.output; number = far.responds.number }) (subst Q (sym same) ends)

-- one message more, whatever came of it
turns_to : {S : Type 0} (wanted : S → Target → ℕ) (steps : S → Request → Reply → S → Type 0) (s t u : S) (unread now unread_new left_new now_new : Option (List ℕ)) (requests : ℕ) (result : Result (Option ℕ) Ended) (input put : List ℕ)
    → requests < most_responses → ServesMessage wanted steps t u unread unread_new left_new now now_new requests result
    → SoFar wanted steps s t input unread put now requests
    → TurnsTo wanted steps s u input unread_new left_new put now_new requests result
turns_to wanted steps s t u unread now unread_new left_new now_new requests (Ok None) input put few serves far =
    so_far_more wanted steps s t u unread now unread_new left_new now_new requests input put serves far
turns_to wanted steps s t u unread now unread_new left_new now_new requests (Ok (Some status)) input put few serves far =
    so_far_closed wanted steps s t u unread now unread_new left_new now_new requests status input put few serves far
turns_to wanted steps s t u unread now unread_new left_new now_new requests (Err ended) input put few serves far =
    so_far_ended wanted steps s t u unread now unread_new left_new now_new requests ended input put few serves far

-- the same of a connection that began with these bytes to be read and these put, where they are told, and a known result
pub told_turns : {S : Type 0} (wanted : S → Target → ℕ) (steps : S → Request → Reply → S → Type 0) (s t u : S) (left put unread now unread_new left_new now_new : Option (List ℕ)) (requests : ℕ) (result known : Result (Option ℕ) Ended)
    → result ≡ known → requests < most_responses → ServesMessage wanted steps t u unread unread_new left_new now now_new requests result
    → IfSome left (λ input. IfSome put (λ put. SoFar wanted steps s t input unread put now requests))
    → IfSome left (λ input. IfSome put (λ put. TurnsTo wanted steps s u input unread_new left_new put now_new requests known))
told_turns {S} wanted steps s t u left put unread now unread_new left_new now_new requests result known is few serves told =
    let P : Result (Option ℕ) Ended → Type 0 = ServesMessage wanted steps t u unread unread_new left_new now now_new requests in
    if_both left put (λ input put. SoFar wanted steps s t input unread put now requests) (λ input put. TurnsTo wanted steps s u input unread_new left_new put now_new requests known)
    (λ input put far. turns_to wanted steps s t u unread now unread_new left_new now_new requests known input put few (subst P is serves) far) told
