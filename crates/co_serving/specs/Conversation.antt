-- The conversation over one connection: what each message of the input is answered by, and how it
-- ends. It says nothing of the pieces in which the input comes.
use Rattle.std.specs.Prelude.{◌≡◌, ◌≢◌, ℕ, ◌+◌, ◌≤◌, ◌<◌, ◌⊎◌, Bool, true, false, ◌||◌, ◌==◌, if◌then◌else◌, List, [], ◌∷◌, ◌++◌, length, take, codes, decimal, Option, Some, None, IsSomeAnd}
use Rattle.std.specs.List.{AllByRecursion}
use Rattle.co_link.specs.declared.messages.Target.{Target}
use Rattle.co_link.specs.declared.messages.Request.{Request}
use Rattle.co_link.specs.declared.messages.Reply.{Reply}
use Rattle.co_http.specs.Heads.{IsHead, IsHeadFault, IsCutShort}
use Rattle.co_http.specs.Targets.{verb_for}
use Rattle.co_http.specs.Responses.{response}
use Rattle.co_http.specs.declared.fault.HttpFault.TheVariants.{BadHead, HeadTooLong}
use Rattle.co_http.specs.declared.request_head.Head.{Head}
use Rattle.co_http.specs.declared.request_head.Verb.{Verb}
use Rattle.co_http.specs.declared.request_head.Verb.TheVariants.{Get, Post, Other}
use Rattle.co_serving.specs.declared.response.Response.{Response}
use Rattle.co_serving.specs.declared.response.Response.TheVariants.{Refused, WrongLength, Replied}
use Rattle.co_serving.specs.declared.ended.Ended.{Ended}
use Rattle.co_serving.specs.declared.ended.Ended.TheVariants as ended

-- the most responses on one connection; the last of them closes it
abbrev pub most_responses : ℕ
most_responses = 1000

-- the statuses of a service's replies
abbrev pub is_reply_status : ℕ → Bool
is_reply_status s = s == 200 || (s == 400 || (s == 409 || s == 503))

-- ---- answers

abbrev pub status_of : Response → ℕ
status_of (Refused status) = status
status_of (WrongLength wanted found) = 400
status_of (Replied reply) = reply.status

-- whether the server closes after it
abbrev pub closes : Response → Bool
closes (Refused status) = true
closes (WrongLength wanted found) = true
closes (Replied reply) = false

-- the status of an answer that closes
abbrev pub closing_status : Response → Option ℕ
closing_status (Refused status) = Some status
closing_status (WrongLength wanted found) = Some 400
closing_status (Replied reply) = None

abbrev pub length_text : ℕ → ℕ → List ℕ
length_text wanted found =
    codes "length " ++ (decimal wanted ++ (codes " " ++ (decimal found ++ codes "\n")))

abbrev pub body_of : Response → List ℕ
body_of (Refused status) = []
body_of (WrongLength wanted found) = length_text wanted found
body_of (Replied reply) = reply.body

-- ---- what is refused before the body is read

abbrev pub is_same : Verb → Verb → Bool
is_same Get Get = true
is_same Post Post = true
is_same Other Other = true
is_same a b = false

-- a declared length has to be the target's
abbrev pub wrong_length : ℕ → ℕ → Option Response
wrong_length wanted found = if found == wanted then None else Some (WrongLength wanted found)

-- a POST has to declare a length; a GET that declares none declares 0
abbrev pub length_refusal : ℕ → Verb → Option ℕ → Option Response
length_refusal wanted verb (Some found) = wrong_length wanted found
length_refusal wanted Post None = Some (Refused 411)
length_refusal wanted Get None = wrong_length wanted 0
length_refusal wanted Other None = wrong_length wanted 0

-- the method has to be the target's
abbrev pub method_refusal : ℕ → Verb → Head → Option Response
method_refusal wanted verb head =
    if is_same verb head.method then length_refusal wanted verb head.length else Some (Refused 405)

-- the target has to be known
abbrev pub target_refusal : (Target → ℕ) → Head → Option Target → Option Response
target_refusal wanted head None = Some (Refused 404)
target_refusal wanted head (Some target) = method_refusal (wanted target) (verb_for target) head

-- what the message with this head is refused by, or None where its body is to be read
unfoldable pub refusal : (Target → ℕ) → Head → Option Response
refusal wanted head = target_refusal wanted head head.target

-- ---- one message

-- The first message of the input has this answer, which leaves the service as t and the input as
-- rest.
pub data Turn {S : Type 0} (wanted : S → Target → ℕ) (steps : S → Request → Reply → S → Type 0)
    (s : S) (input : List ℕ) (answer : Response) (t : S) (rest : List ℕ) : Type 0 where
  bad : IsHeadFault input BadHead → answer ≡ Refused 400 → t ≡ s
      → Turn wanted steps s input answer t rest
  long : IsHeadFault input HeadTooLong → answer ≡ Refused 431 → t ≡ s
      → Turn wanted steps s input answer t rest
  refused : (head : Head) (after : List ℕ) → IsHead input (Some head) after
      → refusal (wanted s) head ≡ Some answer → t ≡ s → Turn wanted steps s input answer t rest
  no_memory : (head : Head) (after : List ℕ) → IsHead input (Some head) after
      → refusal (wanted s) head ≡ None → answer ≡ Refused 503 → t ≡ s
      → Turn wanted steps s input answer t rest
  replied : (head : Head) (target : Target) (body : List ℕ) (reply : Reply)
      → IsHead input (Some head) (body ++ rest) → refusal (wanted s) head ≡ None
      → head.target ≡ Some target → length body ≡ wanted s target
      → steps s (record { target = target; body = body }) reply t → answer ≡ Replied reply
      → Turn wanted steps s input answer t rest

-- the input ends inside a message, or before one
abbrev pub HasNoMessage : (Target → ℕ) → List ℕ → Type 0
HasNoMessage wanted input =
    IsCutShort input
    ⊎ ((head : Head) × (target : Target) × (body : List ℕ) × IsHead input (Some head) body
    × (refusal wanted head ≡ None) × (head.target ≡ Some target)
    × (length body < wanted target))

-- ---- one message after another

-- The first messages of the input have these answers, which leave the service as t and the input as
-- rest. Only the last may close.
abbrev pub Turns : {S : Type 0} → (S → Target → ℕ) → (S → Request → Reply → S → Type 0) → S → List ℕ
    → List Response → S → List ℕ → Type 0
Turns wanted steps s input [] t rest = (t ≡ s) × (rest ≡ input)
Turns {S} wanted steps s input (a ∷ more) t rest =
    (m : S) × (after : List ℕ) × Turn wanted steps s input a m after × (closes a ≡ true → more ≡ [])
    × Turns wanted steps m after more t rest

-- the bytes of a response, before which so many came: the last of a connection says that the server
-- closes
abbrev pub response_at : ℕ → Response → List ℕ
response_at count a = response (status_of a) (closes a || count + 1 == most_responses) (body_of a)

-- the bytes of responses, before which so many came
abbrev pub responses : ℕ → List Response → List ℕ
responses count [] = []
responses count (a ∷ more) = response_at count a ++ responses (count + 1) more

-- none of them closes
abbrev pub AreOpen : List Response → Type 0
AreOpen answers = AllByRecursion (λ a. closes a ≡ false) answers

-- ---- how a connection was served

-- how a response with this status that closes ends the connection, as the last of so many
abbrev pub closing_end : ℕ → ℕ → Ended
closing_end requests status =
    if requests == most_responses then ended.Spent else ended.Refused status

-- The output is these responses, and requests counts them.
pub record Responds (answers : List Response) (put : List ℕ) (now : Option (List ℕ)) (requests : ℕ)
    : Type 0 where
  pub output : now ≡ Some (put ++ responses 0 answers)
  pub number : requests ≡ length answers

-- a conversation with these answers, none of which closes, up to the place where no whole message
-- follows; it leaves rest
pub record Stays {S : Type 0} (wanted : S → Target → ℕ) (steps : S → Request → Reply → S → Type 0)
    (s t : S) (input : List ℕ) (answers : List Response) (rest : List ℕ) : Type 0 where
  pub turns : Turns wanted steps s input answers t rest
  pub stay : AreOpen answers
  pub few : length answers < most_responses

-- How a connection was served, by its end: input is what was to be read and put what had been put
-- at the start; left is what the source has left in the end, and now what has been put by then.
abbrev pub Serves : {S : Type 0} → (S → Target → ℕ) → (S → Request → Reply → S → Type 0) → S → S
    → List ℕ → Option (List ℕ) → List ℕ → Option (List ℕ) → ℕ → Ended → Type 0
-- the input ended between two messages
Serves wanted steps s t input left put now requests ended.Closed =
    (answers : List Response) × Stays wanted steps s t input answers []
    × Responds answers put now requests
-- the input ended inside a message
Serves wanted steps s t input left put now requests ended.Cut =
    (answers : List Response) × (rest : List ℕ) × Stays wanted steps s t input answers rest
    × (rest ≢ []) × HasNoMessage (wanted t) rest × Responds answers put now requests
-- a response before the last closed, with this status
Serves wanted steps s t input left put now requests (ended.Refused status) =
    (front : List Response) × (a : Response) × (rest : List ℕ)
    × Turns wanted steps s input (front ++ a ∷ []) t rest × (closes a ≡ true)
    × (status ≡ status_of a)
    × (length front + 1 < most_responses) × Responds (front ++ a ∷ []) put now requests
-- the last response was written
Serves wanted steps s t input left put now requests ended.Spent =
    (answers : List Response) × (rest : List ℕ) × Turns wanted steps s input answers t rest
    × (length answers ≡ most_responses) × Responds answers put now requests
-- taking failed: the output is the responses to the whole messages of what was taken, which is the
-- input up to what the source has left
Serves wanted steps s t input left put now requests ended.ReadFault =
    (answers : List Response) × Responds answers put now requests
    × IsSomeAnd left (λ more. (taken : List ℕ) × (rest : List ℕ) × (input ≡ taken ++ more)
    × Stays wanted steps s t taken answers rest × HasNoMessage (wanted t) rest)
-- putting failed: the output ends inside the last of the responses
Serves wanted steps s t input left put now requests ended.WriteFault =
    (front : List Response) × (a : Response) × (rest : List ℕ) × (n : ℕ)
    × Turns wanted steps s input (front ++ a ∷ []) t rest × (length front < most_responses)
    × (n ≤ length (response_at (length front) a))
    × (now ≡ Some (put ++ (responses 0 front ++ take n (response_at (length front) a))))
    × (requests ≡ length front)
-- there was no memory for the connection: nothing was taken and nothing put
Serves wanted steps s t input left put now requests ended.OutOfMemory =
    (t ≡ s) × (left ≡ Some input) × (now ≡ Some put) × (requests ≡ 0)
