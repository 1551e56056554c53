-- A search ends at the first cause: no other refusal had one in what it went past.
use Rattle.std.specs.Prelude.{◌≡◌, ℕ, ◌+◌, ◌-◌, ◌<◌, List, length, slice_get, Some, Result, Ok, Err}
use Rattle.co_link.specs.declared.messages.Exchange.{Exchange}
use Rattle.co_noise.specs.Shapes.{Numbers}
use Rattle.co_noise.specs.Bounds.{test_of}
use Rattle.co_text.specs.declared.found.Found.{Found}
use Rattle.co_text.specs.declared.ranks.Ranked.{Ranked}
use Rattle.co_wire.specs.Public.{public_of}
use Rattle.co_wire.specs.Lengths.{reply_size}
use Rattle.co_client.specs.declared.fault.SearchFault.{SearchFault}
use Rattle.co_client.specs.declared.fault.SearchFault.TheVariants.{BadPublic, Link, Refused, BadReply, OutOfMemory}
use Rattle.co_client.specs.Openings.{IsBadReply}
use Rattle.co_client.specs.Causes.{Search, Publishes, ReadsRecords}

-- how many of so many replies were taken: not the last one where it is refused, nor where memory is
-- wanting
abbrev pub taken : Result Found SearchFault → ℕ → ℕ
taken (Err (BadPublic place)) n = n - 1
taken (Err (Refused target status)) n = n - 1
taken (Err (BadReply target place)) n = n - 1
taken (Err OutOfMemory) n = n - 1
taken result n = n

-- how many exchanges were begun where so many were made: one more where the link failed
abbrev pub begun : Result Found SearchFault → ℕ → ℕ
begun (Err Link) n = n + 1
begun result n = n

-- the status of each reply that was taken is 200, its body is good, the numbers passed the test
-- before the keys were handed over, and the records were read before the document was asked for
pub record EndsFirst (r : Search) (es : List Exchange) (result : Result Found SearchFault)
    : Type 0 where
  pub status : (number : ℕ) (e : Exchange) → slice_get es number ≡ Some e
      → number < taken result (length es) → e.reply.status ≡ 200
  pub public : (e : Exchange) (place : ℕ) → slice_get es 0 ≡ Some e → 0 < taken result (length es)
      → public_of e.reply.body ≡ Err place → ⊥
  pub whole : (s : Numbers) (terms : List (List ℕ)) → Publishes es s terms
      → (number : ℕ) (e : Exchange) (place : ℕ) → 0 < number → slice_get es number ≡ Some e
      → number < taken result (length es)
      → IsBadReply (reply_size s e.request.target) e.reply.body place → ⊥
  pub tested : (s : Numbers) (terms : List (List ℕ)) → Publishes es s terms
      → 1 < begun result (length es) → test_of s ≡ Ok s
  pub recorded : (s : Numbers) (terms : List (List ℕ)) (hits : List Ranked) (fault : SearchFault)
      → 4 < begun result (length es) → ReadsRecords r es s terms hits (Err fault) → ⊥
