-- Number, order and lengths of a search's requests.
use Rattle.std.specs.Prelude.{◌≡◌, ℕ, List, [], ◌∷◌, map, length, take, drop, Option, Some, None, Result, Ok, Err}
use Rattle.co_link.specs.declared.messages.Target.{Target}
use Rattle.co_link.specs.declared.messages.Target.TheVariants.{Public, Keys, Score, Meta, Document}
use Rattle.co_link.specs.declared.messages.Exchange.{Exchange}
use Rattle.co_noise.specs.Shapes.{Numbers}
use Rattle.co_wire.specs.Lengths.{request_size}
use Rattle.co_wire.specs.Public.{public_of}

-- what the outside sees of a request: its target, which is its method and path, and the length of
-- its body
abbrev pub Seen : Type 0
Seen = Target × ℕ

-- what the outside sees of exchanges
abbrev pub trace : List Exchange → List Seen
trace es = map (λ e. (e.request.target, length e.request.body)) es

-- the targets of a search, in order
abbrev pub targets : List Target
targets = Public ∷ Keys ∷ Score ∷ Meta ∷ Document ∷ []

-- the requests of a search over a library with these published numbers
abbrev pub plan : Numbers → List Seen
plan s = map (λ t. (t, request_size s t)) targets

-- the plan by what the first exchange publishes; before that, and where it publishes nothing good,
-- the request for it
abbrev pub plan_of : Result (Numbers × List (List ℕ)) ℕ → List Seen
plan_of (Ok published) = plan published.0
plan_of (Err place) = (Public, 0) ∷ []

abbrev pub planned : List Exchange → List Seen
planned [] = (Public, 0) ∷ []
planned (e ∷ es) = plan_of (public_of e.reply.body)

-- the exchanges are as planned, up to where they end
abbrev pub FollowsPlan : List Exchange → Type 0
FollowsPlan es = trace es ≡ take (length es) (planned es)

-- as planned, and all of them
pub record IsWholePlan (es : List Exchange) : Type 0 where
  pub shape : Numbers
  pub terms : List (List ℕ)
  pub first : Exchange
  pub others : List Exchange
  pub are : es ≡ first ∷ others
  pub published : public_of first.reply.body ≡ Ok (shape, terms)
  pub all : trace es ≡ plan shape

-- the exchanges of a call: those behind the ones before it, where the link tells them
abbrev pub made : Option (List Exchange) → Option (List Exchange) → Option (List Exchange)
made (Some before) (Some now) = Some (drop (length before) now)
made (Some before) None = None
made None now = None

-- the exchanges before a call stay, and those of the call stand behind them
abbrev pub Extends : Option (List Exchange) → Option (List Exchange) → Type 0
Extends None now = now ≡ None
Extends (Some before) None = ⊥
Extends (Some before) (Some now) = take (length before) now ≡ before
