-- When a search goes on from one round to the next.
use Rattle.std.specs.Prelude.{◌≡◌, ◌<◌, ◌≤◌, ◌+◌, ℕ, List, length, slice_get, Some, Ok}
use Rattle.co_link.specs.declared.messages.Exchange.{Exchange}
use Rattle.co_noise.specs.Shapes.{Numbers}
use Rattle.co_noise.specs.Bounds.{test_of}
use Rattle.co_text.specs.Terms.{distinct}
use Rattle.co_text.specs.declared.limits.TheConstants.{MOST_KEYWORDS}
use Rattle.co_client.specs.Causes.{Search, Publishes}

-- a search asks only for few keywords; it asks more than the published numbers only where these
-- pass the test; and behind a reply it asks more only where the reply's status is 200
pub record GoesOn (r : Search) (es : List Exchange) : Type 0 where
  pub few : 0 < length es → length (distinct r.query) ≤ MOST_KEYWORDS
  pub tested : (s : Numbers) (terms : List (List ℕ)) → Publishes es s terms → 1 < length es
      → test_of s ≡ Ok s
  pub taken : (number : ℕ) (e : Exchange) → slice_get es number ≡ Some e → number + 1 < length es
      → e.reply.status ≡ 200
