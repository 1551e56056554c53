-- Replies that are checked whole, and then opened one ciphertext after another.
use Rattle.std.specs.Prelude.{◌≡◌, ◌≢◌, ◌⊎◌, ◌<◌, ◌++◌, ℕ, min, List, length, take, drop, Result, Ok, Err}
use Rattle.co_link.specs.declared.messages.Target.{Target}
use Rattle.co_slots.specs.Payloads.{IsPayload}
use Rattle.co_slots.specs.Faults.{IsCause}
use Rattle.co_slots.specs.declared.payloads.ByteFault.{ByteFault}
use Rattle.co_slots.specs.declared.payloads.ByteFault.TheVariants as faults
use Rattle.co_bfv.specs.Ciphertexts.{Ciphertext}
use Rattle.co_wire.specs.Bodies.{SpellsCiphers, IsFirstOutOfRange}
use Rattle.co_client.specs.declared.fault.SearchFault.{SearchFault}
use Rattle.co_client.specs.declared.fault.SearchFault.TheVariants.{BadReply, OutOfMemory}

-- the place of what is wrong in a body that is to have so many bytes: the lesser of the two lengths
-- where they differ, else the first residue out of range
abbrev pub IsBadReply : ℕ → List ℕ → ℕ → Type 0
IsBadReply size body place = ((length body ≢ size) × (place ≡ min (length body) size))
    ⊎ ((length body ≡ size) × IsFirstOutOfRange body place)

-- the body is refused as that of a target's reply; want of memory is free
abbrev pub IsRefusedBody : ℕ → Target → List ℕ → SearchFault → Type 0
IsRefusedBody size target body (BadReply t place) = (t ≡ target) × IsBadReply size body place
IsRefusedBody size target body OutOfMemory = Unit {0}
IsRefusedBody size target body fault = ⊥

-- the body spells so many ciphertexts of degree n
pub record AreSpelled (n count : ℕ) (body : List ℕ) : Type 0 where
  pub ciphers : List Ciphertext
  pub spelled : SpellsCiphers n count ciphers body

-- what is opened of a body: the payload of these coefficients of the ciphertexts that it spells, or
-- their first fault
abbrev pub OpensTo : ℕ → List ℕ → (List Ciphertext → List ℕ) → Result (List ℕ) ByteFault → Type 0
OpensTo n body coeffs (Ok bytes) =
    (cs : List Ciphertext) (count : ℕ) → SpellsCiphers n count cs body → IsPayload bytes (coeffs cs)
OpensTo n body coeffs (Err fault) =
    (cs : List Ciphertext) (count : ℕ) → SpellsCiphers n count cs body → IsCause (coeffs cs) fault

-- behind the bytes before came the payload of these coefficients
pub record AddsPayload (before now : List ℕ) (coeffs : List ℕ) : Type 0 where
  pub piece : List ℕ
  pub added : now ≡ before ++ piece
  pub payload : IsPayload piece coeffs

-- the part of a list of so many from a place on
abbrev pub part_of : ℕ → ℕ → List Ciphertext → List Ciphertext
part_of from count cs = take count (drop from cs)

-- the place of a fault is below this
abbrev pub IsPlaceBelow : ℕ → ByteFault → Type 0
IsPlaceBelow n (faults.NotByte place) = place < n
IsPlaceBelow n faults.OutOfMemory = Unit {0}
