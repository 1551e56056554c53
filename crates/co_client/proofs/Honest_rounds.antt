-- A search over honest exchanges: its secret and keys open the library's replies, and of each round that was answered the
-- request is the drawn one and the reply is honest under its keys.
use Rattle.std.proofs.Common.{◌≡◌, ℕ, suc, ◌<◌, ◌≤◌, refl, sym, ap, ◌∙◌, arith, List, [], ◌∷◌, length, Option, Some, Result, Ok, option_map}
use Rattle.std.specs.Prelude.{slice_get}
use Rattle.std.proofs.lemmas.Option.{same_Some, slice_get-map, slice_get_within}
use Rattle.rand_core.specs.Stream.{Stream}
use Rattle.co_link.specs.declared.messages.Target.{Target}
use Rattle.co_link.specs.declared.messages.Exchange.{Exchange}
use Rattle.co_link.specs.Exchanges.{exchange_of}
use Rattle.co_noise.specs.Shapes.{HasRanges}
use Rattle.co_noise.specs.Bounds.{HasRoom, test_of}
use Rattle.co_noise.proofs.Ranges.{ranges}
use Rattle.co_noise.proofs.Room.{room}
use Rattle.co_bfv.specs.Ciphertexts.{Ciphertext}
use Rattle.co_bfv.specs.Draws.{secret_draw}
use Rattle.co_text.specs.declared.found.Found.{Found}
use Rattle.co_text.specs.Terms.{distinct}
use Rattle.co_text.specs.Numbers.{numbers_of}
use Rattle.co_corpus.specs.declared.documents.Document.{Document}
use Rattle.co_wire.specs.Bodies.{keys_bytes, SpellsKeys}
use Rattle.co_wire.specs.Lengths.{request_size}
use Rattle.co_library.specs.declared.settings.Settings.{Settings}
use Rattle.co_library.specs.Libraries.{Parts}
use Rattle.co_rounds.specs.Answers.{reply_with}
use Rattle.co_rounds.specs.Honest.{IsHonest, AreHonest}
use Rattle.co_rounds.specs.Plans.{targets, FollowsPlan}
use Rattle.co_rounds.specs.Asked.{bodies_of}
use Rattle.co_rounds.specs.Recording.{IsLibraryFor, CanBeOpened}
use Rattle.co_client.specs.declared.fault.SearchFault.{SearchFault}
use Rattle.co_client.specs.Causes.{Search, Publishes, Answered, Asks}
use Rattle.co_client.specs.Going.{GoesOn}
use Rattle.co_client.proofs.Exchanged.{in_front, place_of, place_is, plan_is, sent_at, honest_under, parts_of}
use Rattle.co_client.proofs.Fresh_queries.{secret_is, secret_long, keys_spelled, keys_good}

-- a search whose exchanges are honest to the library of a corpus and settings, and publish numbers that pass the test
pub record IsHonestSearch (documents : List Document) (settings : Settings) (l : Parts) (held : Option (List ℕ)) (r : Search) (es : List Exchange) (result : Result Found SearchFault) (left : Stream) : Type 0 where
  pub library : IsLibraryFor documents settings l
  pub honest : AreHonest l held es
  pub follows : FollowsPlan es
  pub goes : GoesOn r es
  pub published : Publishes es l.shape l.terms
  pub passes : test_of l.shape ≡ Ok l.shape
  pub asks : Asks r es l.shape l.terms result left

module _ {documents : List Document} {settings : Settings} {l : Parts} {held : Option (List ℕ)} {r : Search} {es : List Exchange} {result : Result Found SearchFault} {left : Stream}
    (h : IsHonestSearch documents settings l held r es result left) where
  pub has : HasRanges l.shape
  has = ranges l.shape h.library.built.good.published.good.ranges

  pub has_room : HasRoom l.shape
  has_room = room l.shape h.passes

  -- the keywords are few, since something was asked
  pub few : length (distinct r.query) ≤ 16
  few = h.goes.few (omega (arith, ap (λ (xs : List Exchange). length xs) h.published.are))

  -- ---- secret and keys

  pub spelled : SpellsKeys l.shape h.asks.asked.keys (keys_bytes h.asks.asked.keys)
  spelled = keys_spelled l.shape has has_room (numbers_of l.terms (distinct r.query)) h.asks.rows h.asks.bin r.stream h.asks.asked h.asks.rest h.asks.drawn

  pub can : CanBeOpened l (secret_draw l.shape.degree r.stream).0 h.asks.asked.keys
  can = record {
    library = h.library.built.good;
    room = has_room;
    is_secret = secret_is l.shape has has_room (numbers_of l.terms (distinct r.query)) h.asks.rows h.asks.bin r.stream h.asks.asked h.asks.rest h.asks.drawn;
    degree = secret_long l.shape has has_room (numbers_of l.terms (distinct r.query)) h.asks.rows h.asks.bin r.stream h.asks.asked h.asks.rest h.asks.drawn;
    keys_for = spelled.keys_for;
    good = keys_good l.shape has has_room (numbers_of l.terms (distinct r.query)) h.asks.rows h.asks.bin r.stream h.asks.asked h.asks.rest h.asks.drawn;
  }

  -- ---- rounds

  pub sent : (k : ℕ) (e : Exchange) → slice_get es k ≡ Some e → (slice_get targets k ≡ Some e.request.target) × (length e.request.body ≡ request_size l.shape e.request.target)
  sent = sent_at l.shape es h.follows (plan_is es l.shape l.terms h.published)

  pub body_at : (k : ℕ) (e : Exchange) → slice_get es k ≡ Some e → slice_get ([] ∷ bodies_of h.asks.asked) k ≡ Some e.request.body
  body_at k e at =
      in_front (length es) ([] ∷ bodies_of h.asks.asked) k e.request.body
      (ap (λ (bs : List (List ℕ)). slice_get bs k) (sym h.asks.requests) ∙ slice_get-map (λ (x : Exchange). x.request.body) es k ∙ ap (option_map (λ (x : Exchange). x.request.body)) at)

  -- behind the keys each exchange is honest under them
  pub under : (j : ℕ) (e : Exchange) → slice_get es (suc (suc j)) ≡ Some e → IsHonest l (Some (keys_bytes h.asks.asked.keys)) e
  under j e at =
      honest_under l held es j e (keys_bytes h.asks.asked.keys) h.honest (λ k x u. (sent k x u).0) h.goes.taken
      (λ x u. sym (same_Some (keys_bytes h.asks.asked.keys) x.request.body (body_at 1 x u))) at

  -- a round that was answered was made
  pub made_within : (n count : ℕ) (t : Target) (replies : List Ciphertext) → Answered es n count t replies → place_of t < length es
  made_within n count t replies a =
      let e : Exchange = exchange_of a.request (reply_with 200 a.body) in
      let here : a.number ≡ place_of t = place_is a.number t ((sent a.number e a.is).0 ∙ ap (λ (x : Target). Some x) a.target_is) in
      omega (arith, here, slice_get_within es a.number e a.is)

  -- and its reply is honest
  pub round : (n count : ℕ) (t : Target) (replies : List Ciphertext) (a : Answered es n count t replies) (j : ℕ) (body : List ℕ) → place_of t ≡ suc (suc j)
      → slice_get ([] ∷ bodies_of h.asks.asked) (suc (suc j)) ≡ Some body
      → IsHonest l (Some (keys_bytes h.asks.asked.keys)) (exchange_of (record { target = t; body = body }) (reply_with 200 a.body))
  round n count t replies a j body place is =
      let e : Exchange = exchange_of a.request (reply_with 200 a.body) in
      let here : a.number ≡ suc (suc j) = place_is a.number t ((sent a.number e a.is).0 ∙ ap (λ (x : Target). Some x) a.target_is) ∙ place in
      let at : slice_get es (suc (suc j)) ≡ Some e = ap (slice_get es) (sym here) ∙ a.is in
      let asked : a.request.body ≡ body = same_Some a.request.body body (sym (body_at (suc (suc j)) e at) ∙ is) in
      parts_of l (Some (keys_bytes h.asks.asked.keys)) e t body a.target_is asked refl (under j e at)
