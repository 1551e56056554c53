-- One message: from its head, and what follows it, to its answer.
use Rattle.std.proofs.Common.{◌≡◌, ℕ, List, [], ◌++◌, true, Option, Some, None, Result, Ok, Err, refl, sym, ap, ◌∙◌, subst, inr}
use Rattle.std.specs.Prelude.{IfSome}
use Rattle.co_link.specs.declared.messages.Target.{Target}
use Rattle.co_link.specs.declared.messages.Request.{Request}
use Rattle.co_link.specs.declared.messages.Reply.{Reply}
use Rattle.co_http.specs.Heads.{IsHead}
use Rattle.co_http.specs.Conn.{ReadsHead}
use Rattle.co_http.specs.declared.fault.HttpFault.{HttpFault}
use Rattle.co_http.specs.declared.request_head.Head.{Head}
use Rattle.co_http.proofs.MessageHeads.{head_not_empty, head_cut}
use Rattle.co_serving.specs.declared.message.Message.{Message}
use Rattle.co_serving.specs.declared.message.Message.TheVariants as messages
use Rattle.co_serving.specs.declared.response.Response.{Response}
use Rattle.co_serving.specs.declared.response.Response.TheVariants.{Replied}
use Rattle.co_serving.specs.declared.ended.Ended.{Ended}
use Rattle.co_serving.specs.declared.ended.Ended.TheVariants.{Closed, Refused, Cut, Spent, ReadFault, WriteFault, OutOfMemory}
use Rattle.co_serving.specs.Conversation.{closes, refusal, Turn, bad, long, refused, no_memory, replied}
use Rattle.co_serving.specs.Reading.{EndsReading, EndsBody, ReadsRequest, Refuses, bad_head, long_head, refused_head, no_room, ReadsNext, ReadsMessage}

-- no head and no bytes
pub ends_closed : (first : Option HttpFault) (old new : Option (List ℕ)) → first ≡ None → ReadsHead first old new (Ok None) → IfSome old (λ input. input ≡ [])
ends_closed (Some fault) old new none reads = absurd (cc)
ends_closed None None new none reads = tt
ends_closed None (Some input) None none reads = absurd reads
ends_closed None (Some input) (Some rest) none reads = reads.0

-- a head that is refused, whatever the source has left
pub next_refused : (wanted : Target → ℕ) (first : Option HttpFault) (old new left now : Option (List ℕ)) (head : Head) (answer : Response)
    → first ≡ None → ReadsHead first old new (Ok (Some head)) → refusal wanted head ≡ Some answer → closes answer ≡ true → ReadsNext wanted old now left (Ok (messages.Refused answer))
next_refused wanted (Some fault) old new left now head answer none reads is closing = absurd (cc)
next_refused wanted None None new left now head answer none reads is closing = (closing, tt)
next_refused wanted None (Some input) None left now head answer none reads is closing = absurd reads
next_refused wanted None (Some input) (Some after) left now head answer none reads is closing = (closing, refused_head head after reads is)

ends_body : (wanted : Target → ℕ) (input after : List ℕ) (left : Option (List ℕ)) (head : Head) (target : Target) (ended : Ended)
    → IsHead input (Some head) after → refusal wanted head ≡ None → head.target ≡ Some target → EndsBody (wanted target) after left ended → EndsReading wanted input left ended
ends_body wanted input after left head target Cut is taken known ends = (head_not_empty input head after is, inr (head, target, after, is, taken, known, ends))
ends_body wanted input after None head target ReadFault is taken known ends = absurd ends
ends_body wanted input after (Some more) head target ReadFault is taken known (body, parts, few) =
    let cut = head_cut input after body more head is parts in
    (cut.0, cut.1, inr (head, target, body, cut.2, taken, known, few))
ends_body wanted input after left head target Closed is taken known ends = absurd ends
ends_body wanted input after left head target (Refused status) is taken known ends = absurd ends
ends_body wanted input after left head target Spent is taken known ends = absurd ends
ends_body wanted input after left head target WriteFault is taken known ends = absurd ends
ends_body wanted input after left head target OutOfMemory is taken known ends = absurd ends

some_same : (x y : List ℕ) → Some x ≡ Some y → x ≡ y
some_same x y same = cc

-- a head whose body is read
pub next_asked : (wanted : Target → ℕ) (first : Option HttpFault) (old after new left : Option (List ℕ)) (head : Head) (target : Target) (result : Result Message Ended)
    → first ≡ None → ReadsHead first old after (Ok (Some head)) → refusal wanted head ≡ None → head.target ≡ Some target
    → ReadsRequest (wanted target) target after new left result → ReadsNext wanted old new left result
next_asked wanted (Some fault) old after new left head target result none reads is known asks = absurd (cc)
next_asked wanted None None after new left head target (Ok (messages.Refused answer)) none reads is known asks = (ap closes asks, tt)
next_asked wanted None None after new left head target (Ok (messages.Asked request)) none reads is known asks = (asks.1 ∙ ap wanted (sym asks.0), tt)
next_asked wanted None None after new left head target (Err ended) none reads is known asks = (asks.0, tt)
next_asked wanted None (Some input) None new left head target result none reads is known asks = absurd reads
next_asked wanted None (Some input) (Some after) new left head target (Ok (messages.Refused answer)) none reads is known asks = (ap closes asks, no_room head after reads is asks)
next_asked wanted None (Some input) (Some after) None left head target (Ok (messages.Asked request)) none reads is known asks = let none : Some after ≡ None = asks.2 in absurd cc
next_asked wanted None (Some input) (Some after) (Some rest) left head target (Ok (messages.Asked request)) none reads is known asks =
    let parts : after ≡ request.body ++ rest = some_same after (request.body ++ rest) asks.2 in
    let P : List ℕ → Type 0 = λ after. IsHead input (Some head) after in
    (asks.1 ∙ ap wanted (sym asks.0), record { head = head; reads = subst P parts reads; taken = is; known = known ∙ ap (λ (t : Target). Some t) (sym asks.0); whole = asks.1 ∙ ap wanted (sym asks.0) })
next_asked wanted None (Some input) (Some after) new left head target (Err ended) none reads is known asks =
    (asks.0, ends_body wanted input after left head target ended reads is known asks.1)

-- ---- with a service

turn_refused : {S : Type 0} (wanted : S → Target → ℕ) (steps : S → Request → Reply → S → Type 0) (s : S) (input : List ℕ) (answer : Response) → Refuses (wanted s) input answer → Turn wanted steps s input answer s []
turn_refused wanted steps s input answer (bad_head fault is) = bad fault is refl
turn_refused wanted steps s input answer (long_head fault is) = long fault is refl
turn_refused wanted steps s input answer (refused_head head after reads is) = refused head after reads is refl
turn_refused wanted steps s input answer (no_room head after reads is full) = no_memory head after reads is full refl

-- a message that is refused
pub message_refused : {S : Type 0} (wanted : S → Target → ℕ) (steps : S → Request → Reply → S → Type 0) (s : S) (old new left : Option (List ℕ)) (answer : Response)
    → ReadsNext (wanted s) old new left (Ok (messages.Refused answer)) → ReadsMessage wanted steps s s old new left (Ok answer)
message_refused wanted steps s None new left answer next = tt
message_refused wanted steps s (Some input) new left answer next = let closing = next.0 in ([], λ stays. absurd (cc), turn_refused wanted steps s input answer next.1)

-- a request that a step answers
pub message_answered : {S : Type 0} (wanted : S → Target → ℕ) (steps : S → Request → Reply → S → Type 0) (s t : S) (old new left : Option (List ℕ)) (request : Request) (reply : Reply)
    → ReadsNext (wanted s) old new left (Ok (messages.Asked request)) → steps s request reply t → ReadsMessage wanted steps s t old new left (Ok (Replied reply))
message_answered wanted steps s t None new left request reply next step = tt
message_answered wanted steps s t (Some input) None left request reply next step = absurd next.1
message_answered wanted steps s t (Some input) (Some rest) left request reply next step =
    let a = next.1 in
    (rest, λ stays. refl, replied a.head request.target request.body reply a.reads a.taken a.known a.whole step refl)

-- what a call met, where its result is known
pub next_at : (wanted : Target → ℕ) (old new left : Option (List ℕ)) (result known : Result Message Ended) → result ≡ known → ReadsNext wanted old new left result → ReadsNext wanted old new left known
next_at wanted old new left result known is next = let P : Result Message Ended → Type 0 = ReadsNext wanted old new left in subst P is next
