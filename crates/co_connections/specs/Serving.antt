-- A session as what answers the requests of a connection, and a connection that is served by one.
use Rattle.std.specs.Prelude.{◌≡◌, ℕ, List, Option, None}
use Rattle.co_link.specs.declared.messages.Target.{Target}
use Rattle.co_link.specs.declared.messages.Request.{Request}
use Rattle.co_link.specs.declared.messages.Reply.{Reply}
use Rattle.co_switch.specs.Keys.{Keys}
use Rattle.co_wire.specs.Lengths.{request_size}
use Rattle.co_library.specs.Libraries.{Parts}
use Rattle.co_rounds.specs.Answers.{IsAnswer, Holds, reply_of}
use Rattle.co_rounds.specs.declared.answer.Answer.{Answer}
use Rattle.co_serving.specs.Conversation.{Serves}
use Rattle.co_serving.specs.declared.ended.Ended.{Ended}

-- the library, and the keys that the session holds
pub record ServingState : Type 0 where
  pub library : Parts
  pub keys : Option Keys

-- at first it holds none
abbrev pub fresh : Parts → ServingState
fresh library = record { library = library; keys = None }

-- a request is answered by the session, whose answer becomes the reply
pub record IsStep (s : ServingState) (r : Request) (reply : Reply) (t : ServingState) : Type 0 where
  pub answer : Answer
  pub answers : IsAnswer s.library s.keys r answer
  pub holds : Holds s.library.shape s.keys r answer t.keys
  pub is : reply ≡ reply_of answer
  pub library_kept : t.library ≡ s.library

-- the length of a request's body
abbrev pub wanted_by : ServingState → Target → ℕ
wanted_by s target = request_size s.library.shape target

-- how a connection is served by a session that is as s before and as t after: the conversation of
-- its input, by its end, with what had been put, and with what the source has left and has been put
-- in the end
abbrev pub Serving : ServingState → ServingState → List ℕ → Option (List ℕ) → List ℕ
    → Option (List ℕ) → ℕ → Ended → Type 0
Serving s t input left put now requests end =
    Serves wanted_by IsStep s t input left put now requests end

-- the same by a new session over the library, whose keys go with the connection
pub record ServesLibrary (library : Parts) (input : List ℕ) (left : Option (List ℕ)) (put : List ℕ)
    (now : Option (List ℕ)) (requests : ℕ) (end : Ended) : Type 0 where
  pub last : ServingState
  pub serves : Serving (fresh library) last input left put now requests end
