-- All that a search tells where it ends, in one record.
use Rattle.std.specs.Prelude.{◌≡◌, ℕ, List, ◌++◌, length, Option, Some, None, Result, Ok, IfOk, IfErr}
use Rattle.rand_core.specs.Stream.{Stream}
use Rattle.co_link.specs.declared.messages.Exchange.{Exchange}
use Rattle.co_noise.specs.Shapes.{Numbers}
use Rattle.co_noise.specs.Bounds.{test_of}
use Rattle.co_text.specs.declared.found.Found.{Found}
use Rattle.co_text.specs.Terms.{distinct}
use Rattle.co_rounds.specs.Plans.{FollowsPlan, IsWholePlan}
use Rattle.co_client.specs.declared.fault.SearchFault.{SearchFault}
use Rattle.co_client.specs.Causes.{Search, Publishes, IsRead, IsCause, IsAnswered, Asks}
use Rattle.co_client.specs.Going.{GoesOn}
use Rattle.co_client.specs.Earlier.{EndsFirst}
use Rattle.co_client.specs.Faults.{IsForFew}

-- these exchanges came behind those before, where the link tells its exchanges
abbrev pub Makes : Option (List Exchange) → Option (List Exchange) → List Exchange → Type 0
Makes None now es = now ≡ None
Makes (Some old) now es = now ≡ Some (old ++ es)

-- all that a search tells of its exchanges
pub record Tells (run : Search) (es : List Exchange) (result : Result Found SearchFault)
    (left : Stream) : Type 0 where
  pub follows : FollowsPlan es
  pub whole : IsAnswered result → IsWholePlan es
  pub read : IfOk result (IsRead run es)
  pub refused : IfErr result (IsCause run es)
  pub asked : (s : Numbers) (ts : List (List ℕ)) → Publishes es s ts → test_of s ≡ Ok s
      → Asks run es s ts result left
  pub goes : GoesOn run es
  pub few : IsForFew (length (distinct run.query)) result
  pub earlier : EndsFirst run es result

-- a search made these exchanges, and tells all of them
pub record Told (run : Search) (was now : Option (List Exchange))
    (result : Result Found SearchFault) (left : Stream) : Type 0 where
  pub exchanges : List Exchange
  pub makes : Makes was now exchanges
  pub tells : Tells run exchanges result left
