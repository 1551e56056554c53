-- What a step of a session makes of a request.
use Rattle.std.proofs.Common.{◌≡◌, ℕ, List, Option, Some, None, refl, ap, subst}
use Rattle.std.specs.Prelude.{IfSome}
use Rattle.co_link.specs.declared.messages.Target.{Target}
use Rattle.co_link.specs.declared.messages.Target.TheVariants.{Public, Keys as ForKeys, Score, Meta, Document}
use Rattle.co_link.specs.declared.messages.Request.{Request}
use Rattle.co_link.specs.declared.messages.Reply.{Reply}
use Rattle.co_switch.specs.Keys.{Keys}
use Rattle.co_library.specs.Libraries.{Parts}
use Rattle.co_rounds.specs.Answers.{IsAnswer, IsDone, Holds, HoldsDone, reply_of}
use Rattle.co_rounds.specs.declared.answer.Answer.{Answer}
use Rattle.co_rounds.specs.declared.answer.Answer.TheVariants.{Done, Length, NoKeys, Range, OutOfMemory}
use Rattle.co_server.specs.Kept.{IsEmptyDone}
use Rattle.co_serving.specs.declared.ended.Ended.{Ended}
use Rattle.co_connections.specs.Serving.{ServingState, IsStep, fresh, Serving, ServesLibrary}

-- keys are done with no bytes; so any other answer leaves those that are held
done_left : (l : Parts) (old new : Option Keys) (target : Target) (body reply : List ℕ) → IsDone l old target body reply → HoldsDone l.shape old target body new
    → (IsEmptyDone (Done reply) → ⊥) → new ≡ old
done_left l old new Public body reply is holds some = holds
done_left l old new ForKeys body reply is holds some = absurd (some (ap Done is.1))
done_left l old new Score body reply is holds some = holds
done_left l old new Meta body reply is holds some = holds
done_left l old new Document body reply is holds some = holds

pub keys_left : (l : Parts) (old new : Option Keys) (r : Request) (answer : Answer) → IsAnswer l old r answer → Holds l.shape old r answer new
    → (IsEmptyDone answer → ⊥) → new ≡ old
keys_left l old new r (Done reply) is holds some = done_left l old new r.target r.body reply is holds some
keys_left l old new r (Length wanted found) is holds some = holds
keys_left l old new r NoKeys is holds some = holds
keys_left l old new r (Range place) is holds some = holds
keys_left l old new r OutOfMemory is holds some = holds

-- a step whose reply has memory
pub stepped : (l : Parts) (old new : Option Keys) (s : ServingState) (r : Request) (answer : Answer) (reply : Reply) → record { library = l; keys = old } ≡ s → IsAnswer l old r answer → Holds l.shape old r answer new
    → reply ≡ reply_of answer → IsStep s r reply (record { library = l; keys = new })
stepped l old new s r answer reply is answers holds replies =
    let P : ServingState → Type 0 = λ s. IsStep s r reply (record { library = l; keys = new }) in
    subst P is (record { answer = answer; answers = answers; holds = holds; is = replies; library_kept = refl })

-- a step whose reply has no memory is one that answers want of memory
pub step_without_memory : (l : Parts) (old new : Option Keys) (s : ServingState) (r : Request) (answer : Answer) (reply : Reply) → record { library = l; keys = old } ≡ s → IsAnswer l old r answer → Holds l.shape old r answer new
    → (IsEmptyDone answer → ⊥) → reply ≡ reply_of OutOfMemory → IsStep s r reply (record { library = l; keys = new })
step_without_memory l old new s r answer reply is answers holds some replies =
    stepped l old new s r OutOfMemory reply is tt (keys_left l old new r answer answers holds some) replies

-- a new session over the library
pub serves_library : (library : Parts) (s t : ServingState) (left left_new put put_new : Option (List ℕ)) (requests : ℕ) (ended : Ended) → s ≡ fresh library
    → IfSome left (λ input. IfSome put (λ before. Serving s t input left_new before put_new requests ended))
    → IfSome left (λ input. IfSome put (λ before. ServesLibrary library input left_new before put_new requests ended))
serves_library library s t None left_new put put_new requests ended is serves = tt
serves_library library s t (Some input) left_new None put_new requests ended is serves = tt
serves_library library s t (Some input) left_new (Some before) put_new requests ended is serves =
    let P : ServingState → Type 0 = λ s. Serving s t input left_new before put_new requests ended in
    record { last = t; serves = subst P is serves }
