-- The round of the published parameters.
use Rattle.std.specs.Prelude.{◌≡◌, ◌⊎◌, ℕ, List, [], Option, Ok, Err}
use Rattle.co_link.specs.declared.messages.Target.TheVariants.{Public}
use Rattle.co_link.specs.declared.messages.Request.{Request}
use Rattle.co_link.specs.declared.messages.Exchange.{Exchange}
use Rattle.co_math.specs.Coefficients.{AreBelow}
use Rattle.co_noise.specs.Shapes.{Numbers}
use Rattle.co_noise.specs.Bounds.{test_of}
use Rattle.co_noise.specs.declared.testing.TestFault.{TestFault}
use Rattle.co_wire.specs.Public.{ArePublic, public_of}
use Rattle.co_rounds.specs.Answers.{reply_with}
use Rattle.co_client.specs.Rounds.{Comes, ComesNone, RefusesStatus}
use Rattle.co_client.specs.declared.publishing.Published.{Published}
use Rattle.co_client.specs.declared.fault.SearchFault.{SearchFault}
use Rattle.co_client.specs.declared.fault.SearchFault.TheVariants.{BadPublic, Test, Link, Refused, OutOfMemory}

-- the request for them
abbrev pub public_request : Request
public_request = record { target = Public; body = [] }

-- the exchange published these numbers and terms
pub record IsPublic (was now : Option (List Exchange)) (s : Numbers) (terms : List (List ℕ))
    : Type 0 where
  pub body : List ℕ
  pub comes : Comes was now public_request (reply_with 200 body)
  pub read : public_of body ≡ Ok (s, terms)
  pub good : ArePublic s terms

-- this was published, and the numbers pass the test
pub record Consults (was now : Option (List Exchange)) (p : Published) : Type 0 where
  pub public : IsPublic was now p.tested p.terms
  pub passes : test_of p.tested ≡ Ok p.tested

-- the body is none of public bytes
pub record RefusesPublic (was now : Option (List Exchange)) (place : ℕ) : Type 0 where
  pub body : List ℕ
  pub comes : Comes was now public_request (reply_with 200 body)
  pub bad : public_of body ≡ Err place

-- the numbers fail the test
pub record TestFails (was now : Option (List Exchange)) (fault : TestFault) : Type 0 where
  pub shape : Numbers
  pub terms : List (List ℕ)
  pub public : IsPublic was now shape terms
  pub fails : test_of shape ≡ Err fault

-- some bytes came for them
pub record ComesPublic (was now : Option (List Exchange)) : Type 0 where
  pub body : List ℕ
  pub bytes : AreBelow 256 body
  pub comes : Comes was now public_request (reply_with 200 body)

-- what the round tells where it gives nothing
abbrev pub PublicFails : Option (List Exchange) → Option (List Exchange) → SearchFault → Type 0
PublicFails was now (Refused target status) = RefusesStatus was now public_request target status
PublicFails was now (BadPublic place) = RefusesPublic was now place
PublicFails was now (Test fault) = TestFails was now fault
PublicFails was now Link = ComesNone was now
PublicFails was now OutOfMemory = ComesNone was now ⊎ ComesPublic was now
PublicFails was now fault = ⊥
