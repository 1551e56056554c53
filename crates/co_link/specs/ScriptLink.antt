-- A link in memory that plays a list of replies.
use Rattle.std.specs.Prelude.{◌≡◌, Bool, true, false, ◌||◌, List, [], ◌∷◌, Result, Ok, Err}
use Rattle.co_link.specs.Calls.{Calls, is_to_fail}
use Rattle.co_link.specs.declared.messages.Reply.{Reply}
use Rattle.co_link.specs.declared.messages.Exchange.{Exchange}
use Rattle.co_link.specs.declared.link.LinkFault.{LinkFault}
use Rattle.co_link.specs.declared.link.LinkFault.TheVariants.{Failed, OutOfMemory}
use Rattle.co_link.specs.declared.script_link.ScriptLink.{ScriptLink}

-- the exchanges so far
abbrev pub script_told : ScriptLink → List Exchange
script_told s = s.told.items

-- the replies that are left
abbrev pub script_left : ScriptLink → List Reply
script_left s = s.left.items

-- its calls, exchanges and dials together
abbrev pub script_calls : ScriptLink → Calls
script_calls s = s.calls

-- whether no reply is left
abbrev pub is_none_left : List Reply → Bool
is_none_left [] = true
is_none_left (r ∷ rs) = false

-- an exchange gives the first reply that is left; it fails exactly where it is to fail or none is
-- left; want of memory is free and takes no reply
abbrev pub PlaysNext : ScriptLink → ScriptLink → Result Reply LinkFault → Type 0
PlaysNext old new (Ok reply) =
    (script_left old ≡ reply ∷ script_left new) × (is_to_fail (script_calls old) ≡ false)
PlaysNext old new (Err Failed) = (script_left new ≡ script_left old)
    × ((is_to_fail (script_calls old) || is_none_left (script_left old)) ≡ true)
PlaysNext old new (Err OutOfMemory) = (script_left new ≡ script_left old)
    × ((is_to_fail (script_calls old) || is_none_left (script_left old)) ≡ false)
