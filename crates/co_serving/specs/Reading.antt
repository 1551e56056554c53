-- How the reading of one message ends, and what was said so far on a connection.
use Rattle.std.specs.Prelude.{◌≡◌, ◌≢◌, ℕ, ◌+◌, ◌<◌, ◌≤◌, ◌⊎◌, List, [], ◌++◌, length, take, Option, Some, None, IfSome, IsSomeAnd, IsTrue, option_map, true, false, Result, Ok, Err, ⊤}
use Rattle.co_link.specs.Causes.{Rose}
use Rattle.co_link.specs.declared.messages.Target.{Target}
use Rattle.co_link.specs.declared.messages.Request.{Request}
use Rattle.co_link.specs.declared.messages.Reply.{Reply}
use Rattle.co_serving.specs.declared.response.Response.{Response}
use Rattle.co_serving.specs.declared.ended.Ended.{Ended}
use Rattle.co_serving.specs.declared.ended.Ended.TheVariants.{Closed, Cut, ReadFault, WriteFault}
use Rattle.co_http.specs.Bodies.{IsCutBody}
use Rattle.co_http.specs.Heads.{IsHead, IsHeadFault}
use Rattle.co_http.specs.Responses.{is_status}
use Rattle.co_http.specs.declared.fault.HttpFault.{HttpFault}
use Rattle.co_http.specs.declared.fault.HttpFault.TheVariants.{BadHead, HeadTooLong}
use Rattle.co_http.specs.declared.request_head.Head.{Head}
use Rattle.co_serving.specs.declared.message.Message.{Message}
use Rattle.co_serving.specs.declared.message.Message.TheVariants as messages
use Rattle.co_serving.specs.declared.response.Response.TheVariants as answers
use Rattle.co_serving.specs.Conversation.{closes, closing_status, closing_end, status_of, response_at, refusal, Turn, Turns, HasNoMessage, AreOpen, Responds, Serves}

-- the ends that reading may have
abbrev pub OfReading : Ended → Type 0
OfReading Closed = ⊤
OfReading Cut = ⊤
OfReading ReadFault = ⊤
OfReading ended = ⊥

-- why no message is read from the input, of which the source has more left: there is none, or it
-- ends inside one, or taking failed before it was whole
abbrev pub EndsReading : (Target → ℕ) → List ℕ → Option (List ℕ) → Ended → Type 0
EndsReading wanted input left Closed = input ≡ []
EndsReading wanted input left Cut = (input ≢ []) × HasNoMessage wanted input
EndsReading wanted input left ReadFault =
    IsSomeAnd left (λ more. (taken : List ℕ) × (input ≡ taken ++ more) × HasNoMessage wanted taken)
EndsReading wanted input left ended = ⊥

-- the first message of the input is answered without a service, and that closes
pub data Refuses (wanted : Target → ℕ) (input : List ℕ) (answer : Response) : Type 0 where
  bad_head : IsHeadFault input BadHead → answer ≡ answers.Refused 400 → Refuses wanted input answer
  long_head : IsHeadFault input HeadTooLong → answer ≡ answers.Refused 431
      → Refuses wanted input answer
  refused_head : (head : Head) (after : List ℕ) → IsHead input (Some head) after
      → refusal wanted head ≡ Some answer → Refuses wanted input answer
  no_room : (head : Head) (after : List ℕ) → IsHead input (Some head) after
      → refusal wanted head ≡ None → answer ≡ answers.Refused 503 → Refuses wanted input answer

-- the first message of the input is this request, and rest follows
pub record Asks (wanted : Target → ℕ) (input : List ℕ) (request : Request) (rest : List ℕ) : Type 0
  where
    pub head : Head
    pub reads : IsHead input (Some head) (request.body ++ rest)
    pub taken : refusal wanted head ≡ None
    pub known : head.target ≡ Some request.target
    pub whole : length request.body ≡ wanted request.target

-- the first message of what is to be read is refused, or is a request, which leaves the rest of it;
-- or the reading ends
abbrev pub ReadsNext : (Target → ℕ) → Option (List ℕ) → Option (List ℕ) → Option (List ℕ)
    → Result Message Ended → Type 0
ReadsNext wanted old new left (Ok (messages.Refused answer)) =
    (closes answer ≡ true) × IfSome old (λ input. Refuses wanted input answer)
ReadsNext wanted old new left (Ok (messages.Asked request)) =
    (length request.body ≡ wanted request.target)
    × IfSome old (λ input. IsSomeAnd new (λ rest. Asks wanted input request rest))
ReadsNext wanted old new left (Err ended) =
    OfReading ended × IfSome old (λ input. EndsReading wanted input left ended)

-- the status of a response without a service is one that is answered
abbrev pub MayAnswer : Message → Type 0
MayAnswer (messages.Refused answer) = IsTrue (is_status (status_of answer))
MayAnswer (messages.Asked request) = ⊤

-- after a request no fault is kept
abbrev pub KeepsNone : Option HttpFault → Message → Type 0
KeepsNone kept (messages.Refused answer) = ⊤
KeepsNone kept (messages.Asked request) = kept ≡ None

-- the first message of what is to be read has this answer, and the rest of it is left where the
-- answer doesn't close; or the reading ends, and the service is as before
abbrev pub ReadsMessage : {S : Type 0} → (S → Target → ℕ) → (S → Request → Reply → S → Type 0) → S
    → S → Option (List ℕ) → Option (List ℕ) → Option (List ℕ) → Result Response Ended → Type 0
ReadsMessage wanted steps s t old new left (Ok answer) =
    IfSome old (λ input. (rest : List ℕ) × (closes answer ≡ false → new ≡ Some rest)
    × Turn wanted steps s input answer t rest)
ReadsMessage wanted steps s t old new left (Err ended) =
    OfReading ended × (t ≡ s) × IfSome old (λ input. EndsReading (wanted s) input left ended)

-- why no body of a request for the target is read from the input: it ends inside it, or taking
-- failed inside it
abbrev pub EndsBody : ℕ → List ℕ → Option (List ℕ) → Ended → Type 0
EndsBody count input left Cut = length input < count
EndsBody count input left ReadFault = IsSomeAnd left (λ more. IsCutBody count input more)
EndsBody count input left ended = ⊥

-- what follows a head for a known target that isn't refused: a body, and rest; or no memory for it,
-- or the reading ends
abbrev pub ReadsRequest : ℕ → Target → Option (List ℕ) → Option (List ℕ) → Option (List ℕ)
    → Result Message Ended → Type 0
ReadsRequest count target old new left (Ok (messages.Refused answer)) = answer ≡ answers.Refused 503
ReadsRequest count target old new left (Ok (messages.Asked request)) =
    (request.target ≡ target) × (length request.body ≡ count)
    × (old ≡ option_map (λ rest. request.body ++ rest) new)
ReadsRequest count target old new left (Err ended) =
    OfReading ended × IfSome old (λ input. EndsBody count input left ended)

-- The first message of the input was answered, and the answer put as the response before which so
-- many came.
pub record Answered {S : Type 0} (wanted : S → Target → ℕ)
    (steps : S → Request → Reply → S → Type 0) (s t : S) (input : List ℕ) (new : Option (List ℕ))
    (before : List ℕ) (now : Option (List ℕ)) (count : ℕ) (closing : Option ℕ) : Type 0 where
  pub answer : Response
  pub rest : List ℕ
  pub turn : Turn wanted steps s input answer t rest
  pub stays : closes answer ≡ false → new ≡ Some rest
  pub closing_is : closing ≡ closing_status answer
  pub output : now ≡ Some (before ++ response_at count answer)

-- The first message of the input was answered, and putting failed in that response.
pub record Broken {S : Type 0} (wanted : S → Target → ℕ) (steps : S → Request → Reply → S → Type 0)
    (s t : S) (input before : List ℕ) (now : Option (List ℕ)) (count : ℕ) : Type 0 where
  pub answer : Response
  pub rest : List ℕ
  pub n : ℕ
  pub turn : Turn wanted steps s input answer t rest
  pub part : n ≤ length (response_at count answer)
  pub output : now ≡ Some (before ++ take n (response_at count answer))

-- The first message was answered; or putting failed in its response; or no message was read, and
-- nothing put.
abbrev pub ServesMessage : {S : Type 0} → (S → Target → ℕ) → (S → Request → Reply → S → Type 0) → S
    → S → Option (List ℕ) → Option (List ℕ) → Option (List ℕ) → Option (List ℕ) → Option (List ℕ)
    → ℕ → Result (Option ℕ) Ended → Type 0
ServesMessage wanted steps s t old new left put now count (Ok closing) =
    IfSome old (λ input. IfSome put
    (λ before. Answered wanted steps s t input new before now count closing))
ServesMessage wanted steps s t old new left put now count (Err ended) =
    ((ended ≡ WriteFault) × IfSome old
    (λ input. IfSome put (λ before. Broken wanted steps s t input before now count)))
    ⊎ (OfReading ended × (t ≡ s) × (now ≡ put)
    × IfSome old (λ input. EndsReading (wanted s) input left ended))

-- the conversation so far: its answers, none of which closes, and what is to be read next
pub record SoFar {S : Type 0} (wanted : S → Target → ℕ) (steps : S → Request → Reply → S → Type 0)
    (s t : S) (input : List ℕ) (unread : Option (List ℕ)) (put : List ℕ) (now : Option (List ℕ))
    (requests : ℕ) : Type 0 where
  pub answers : List Response
  pub rest : List ℕ
  pub turns : Turns wanted steps s input answers t rest
  pub stay : AreOpen answers
  pub unread_is : unread ≡ Some rest
  pub responds : Responds answers put now requests

-- what one message more makes of the conversation so far
abbrev pub TurnsTo : {S : Type 0} → (S → Target → ℕ) → (S → Request → Reply → S → Type 0) → S → S
    → List ℕ → Option (List ℕ) → Option (List ℕ) → List ℕ → Option (List ℕ) → ℕ
    → Result (Option ℕ) Ended → Type 0
TurnsTo wanted steps s t input unread left put now count (Ok None) =
    SoFar wanted steps s t input unread put now (count + 1)
TurnsTo wanted steps s t input unread left put now count (Ok (Some status)) =
    Serves wanted steps s t input left put now (count + 1) (closing_end (count + 1) status)
TurnsTo wanted steps s t input unread left put now count (Err ended) =
    Serves wanted steps s t input left put now count ended

-- the faults that end a connection come where their counts rose, and no count falls
pub record HaveCauses (ended : Ended) (takes_before takes_now puts_before puts_now : ℕ) : Type 0
  where
    pub read_fault : ended ≡ ReadFault → Rose takes_before takes_now
    pub write_fault : ended ≡ WriteFault → Rose puts_before puts_now
    pub takes_later : takes_before ≤ takes_now
    pub puts_later : puts_before ≤ puts_now
