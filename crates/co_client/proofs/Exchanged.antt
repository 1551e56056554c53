-- The exchanges of a search by their numbers: what each asks, and under which keys it is honest.
use Rattle.std.proofs.Common.{◌≡◌, ℕ, zero, suc, ◌+◌, ◌<◌, inl, inr, cond, eqb, ◌&&◌, false, refl, sym, ap, subst, ◌∙◌, arith, List, [], ◌∷◌, ◌++◌, length, take, map, Option, Some, None, Ok, Err, Result, option_map}
use Rattle.std.specs.Prelude.{Bool, slice_get}
use Rattle.std.proofs.lemmas.Option.{none-some, same_Some, some_pair_parts, slice_get-map, slice_get_within}
use Rattle.std.proofs.lemmas.List.{nil_from_length}
use Rattle.co_link.specs.declared.messages.Target.{Target}
use Rattle.co_link.specs.declared.messages.Target.TheVariants.{Public, Keys as ForKeys, Score, Meta, Document}
use Rattle.co_link.specs.declared.messages.Reply.{Reply}
use Rattle.co_link.specs.declared.messages.Exchange.{Exchange}
use Rattle.co_link.specs.Exchanges.{exchange_of}
use Rattle.co_noise.specs.Shapes.{Numbers}
use Rattle.co_wire.specs.Public.{public_of}
use Rattle.co_wire.specs.Lengths.{request_size}
use Rattle.co_wire.proofs.Formats.{ok_is}
use Rattle.co_library.specs.Libraries.{Parts, IsLibrary}
use Rattle.co_rounds.specs.declared.answer.Answer.{Answer}
use Rattle.co_rounds.specs.declared.answer.Answer.TheVariants.{Done, Length, NoKeys, Range, OutOfMemory}
use Rattle.co_rounds.specs.Answers.{reply_with, reply_of, IsGoodRequest}
use Rattle.co_rounds.specs.Honest.{IsHonest, AreHonest, is_for_keys, held_after}
use Rattle.co_rounds.specs.Plans.{Seen, targets, plan, planned, plan_of, FollowsPlan}
use Rattle.co_rounds.proofs.Rounds.{public_told}
use Rattle.co_rounds.proofs.OneAnswer.{good_answered}
use Rattle.co_client.specs.Causes.{Publishes}

-- ---- numbers of exchanges

-- what stands in the front of a list stands in the list
pub in_front : {A : Type 0} (n : ℕ) (xs : List A) (k : ℕ) (x : A) → slice_get (take n xs) k ≡ Some x → slice_get xs k ≡ Some x
in_front zero xs k x e = absurd (none-some x e)
in_front (suc n) [] k x e = absurd (none-some x e)
in_front (suc n) (y ∷ ys) zero x e = e
in_front (suc n) (y ∷ ys) (suc k) x e = in_front n ys k x e

-- the last element by its number
pub at_end : {A : Type 0} (xs : List A) (x : A) → slice_get (xs ++ x ∷ []) (length xs) ≡ Some x
at_end [] x = refl
at_end (y ∷ ys) x = at_end ys x

-- the number of each target in a search
abbrev pub place_of : Target → ℕ
place_of Public = 0
place_of ForKeys = 1
place_of Score = 2
place_of Meta = 3
place_of Document = 4

abbrev place_or : Option Target → ℕ
place_or None = 0
place_or (Some t) = place_of t

pub place_is : (k : ℕ) (t : Target) → slice_get targets k ≡ Some t → k ≡ place_of t
place_is zero t e = ap place_or e
place_is (suc zero) t e = ap place_or e
place_is (suc (suc zero)) t e = ap place_or e
place_is (suc (suc (suc zero))) t e = ap place_or e
place_is (suc (suc (suc (suc zero)))) t e = ap place_or e
place_is (suc (suc (suc (suc (suc k))))) t e = absurd (none-some t e)

-- ---- what is asked

seen_of : (s : Numbers) (ts : List Target) (k : ℕ) (t : Target) (n : ℕ) → slice_get {X = Seen} (map (λ (x : Target). (x, request_size s x)) ts) k ≡ Some (t, n) → (slice_get ts k ≡ Some t) × (n ≡ request_size s t)
seen_of s [] k t n e = absurd (none-some {A = Seen} (t, n) e)
seen_of s (x ∷ xs) zero t n e = let p = some_pair_parts x t (request_size s x) n e in (ap Some p.0, sym p.1 ∙ ap (request_size s) p.0)
seen_of s (x ∷ xs) (suc k) t n e = seen_of s xs k t n e

-- the published numbers give the plan
pub plan_is : (es : List Exchange) (s : Numbers) (terms : List (List ℕ)) → Publishes es s terms → planned es ≡ plan s
plan_is es s terms p = ap planned p.are ∙ ap plan_of p.read

-- the exchange of a number asks for the target of that number, with a body of its length
pub sent_at : (s : Numbers) (es : List Exchange) → FollowsPlan es → planned es ≡ plan s → (k : ℕ) (e : Exchange) → slice_get es k ≡ Some e
    → (slice_get targets k ≡ Some e.request.target) × (length e.request.body ≡ request_size s e.request.target)
sent_at s es follows is k e at =
    seen_of s targets k e.request.target (length e.request.body)
    (in_front (length es) (plan s) k (e.request.target, length e.request.body)
    (ap (λ (ss : List Seen). slice_get ss k) (sym (follows ∙ ap (take (length es)) is)) ∙ slice_get-map (λ (x : Exchange). (x.request.target, length x.request.body)) es k
    ∙ ap (option_map (λ (x : Exchange). (x.request.target, length x.request.body))) at))

-- the first exchange asks for the published numbers
pub first_sent : (e : Exchange) (others : List Exchange) → FollowsPlan (e ∷ others) → (e.request.target ≡ Public) × (e.request.body ≡ [])
first_sent e others follows =
    let seen : slice_get (plan_of published) 0 ≡ Some (e.request.target, length e.request.body) =
    in_front (length (e ∷ others)) (plan_of published) 0 (e.request.target, length e.request.body) (ap (λ (ss : List Seen). slice_get ss 0) (sym follows)) in
    let p = some_pair_parts Public e.request.target 0 (length e.request.body) (sym (first_of published) ∙ seen) in
    (sym p.0, nil_from_length e.request.body (sym p.1))
  where
    published : Result (Numbers × List (List ℕ)) ℕ
    published = public_of e.reply.body

    first_of : (r : Result (Numbers × List (List ℕ)) ℕ) → slice_get (plan_of r) 0 ≡ Some (Public, 0)
    first_of (Ok p) = refl
    first_of (Err place) = refl

-- ---- honesty

-- each exchange is honest under some keys
pub some_honest : (l : Parts) (held : Option (List ℕ)) (es : List Exchange) (k : ℕ) (e : Exchange) → AreHonest l held es → slice_get es k ≡ Some e → (o : Option (List ℕ)) × IsHonest l o e
some_honest l held [] k e h at = absurd (none-some e at)
some_honest l held (x ∷ xs) zero e h at = (held, subst (IsHonest l held) (same_Some x e at) h.0)
some_honest l held (x ∷ xs) (suc k) e h at = some_honest l (held_after held x) xs k e h.1 at

-- another request leaves the keys that are held
stays : (held : Option (List ℕ)) (e : Exchange) → is_for_keys e.request.target ≡ false → held_after held e ≡ held
stays held e other = ap (λ (b : Bool). cond (b && eqb e.reply.status 200) (Some e.request.body) held) other

behind : (l : Parts) (held : Option (List ℕ)) (es : List Exchange) (k : ℕ) (e : Exchange) → AreHonest l held es → ((j : ℕ) (x : Exchange) → slice_get es j ≡ Some x → is_for_keys x.request.target ≡ false)
    → slice_get es k ≡ Some e → IsHonest l held e
behind l held [] k e h other at = absurd (none-some e at)
behind l held (x ∷ xs) zero e h other at = subst (IsHonest l held) (same_Some x e at) h.0
behind l held (x ∷ xs) (suc k) e h other at =
    behind l held xs k e (subst (λ (o : Option (List ℕ)). AreHonest l o xs) (stays held x (other 0 x refl)) h.1) (λ j y u. other (suc j) y u) at

abbrev for_keys_or : Option Target → Bool
for_keys_or None = false
for_keys_or (Some t) = is_for_keys t

not_for_keys : (j : ℕ) (t : Target) → slice_get targets (suc (suc j)) ≡ Some t → is_for_keys t ≡ false
not_for_keys zero t e = sym (ap for_keys_or e)
not_for_keys (suc zero) t e = sym (ap for_keys_or e)
not_for_keys (suc (suc zero)) t e = sym (ap for_keys_or e)
not_for_keys (suc (suc (suc j))) t e = absurd (none-some t e)

-- an exchange behind that of the keys is honest under these keys
pub honest_under : (l : Parts) (held : Option (List ℕ)) (es : List Exchange) (j : ℕ) (e : Exchange) (body : List ℕ) → AreHonest l held es
    → ((k : ℕ) (x : Exchange) → slice_get es k ≡ Some x → slice_get targets k ≡ Some x.request.target)
    → ((k : ℕ) (x : Exchange) → slice_get es k ≡ Some x → k + 1 < length es → x.reply.status ≡ 200)
    → ((x : Exchange) → slice_get es 1 ≡ Some x → x.request.body ≡ body) → slice_get es (suc (suc j)) ≡ Some e → IsHonest l (Some body) e
honest_under l held [] j e body h sent taken keys at = absurd (none-some e at)
honest_under l held (x ∷ []) j e body h sent taken keys at = absurd (none-some e at)
honest_under l held (x ∷ y ∷ rest) j e body h sent taken keys at =
    let for_keys : y.request.target ≡ ForKeys = sym (same_Some ForKeys y.request.target (sent 1 y refl)) in
    let good : y.reply.status ≡ 200 = taken 1 y refl (omega (arith, slice_get_within rest j e at)) in
    let now : held_after (held_after held x) y ≡ Some body =
    (λ t. cond (is_for_keys (for_keys t) && eqb (good t) 200) (Some y.request.body) (held_after held x)) ∙ ap (λ (b : List ℕ). Some b) (keys y refl) in
    behind l (Some body) rest j e (subst (λ (o : Option (List ℕ)). AreHonest l o rest) now h.1.1) (λ i z u. not_for_keys i z.request.target (sent (suc (suc i)) z u)) at

-- ---- the published numbers are the library's

memory_only : (a : Answer) (r : Reply) → r ≡ reply_of a → r.status ≡ 503 → r.body ≡ []
memory_only (Done body) r e is = absurd (omega (arith, ap (λ (x : Reply). x.status) e, is))
memory_only (Length wanted found) r e is = absurd (omega (arith, ap (λ (x : Reply). x.status) e, is))
memory_only NoKeys r e is = absurd (omega (arith, ap (λ (x : Reply). x.status) e, is))
memory_only (Range place) r e is = absurd (omega (arith, ap (λ (x : Reply). x.status) e, is))
memory_only OutOfMemory r e is = ap (λ (x : Reply). x.body) e

none_published : (p : Numbers × List (List ℕ)) → public_of [] ≡ Ok p → ⊥
unfolding public_of
none_published p e = absurd cc

-- an exchange by its parts
pub parts_of : (l : Parts) (held : Option (List ℕ)) (e : Exchange) (target : Target) (body : List ℕ) → e.request.target ≡ target → e.request.body ≡ body → e.reply.status ≡ 200
    → IsHonest l held e → IsHonest l held (exchange_of (record { target = target; body = body }) (reply_with 200 e.reply.body))
parts_of l held e target body t b s h =
    subst (IsHonest l held) (λ i. record { request = record { target = t i; body = b i }; reply = record { status = s i; body = e.reply.body } }) h

pub published_is : (l : Parts) → IsLibrary l → (held : Option (List ℕ)) (e : Exchange) → IsHonest l held e → e.request.target ≡ Public → e.request.body ≡ []
    → (p : Numbers × List (List ℕ)) → public_of e.reply.body ≡ Ok p → p ≡ (l.shape, l.terms)
published_is l library held e h t b p read =
    elim (good_answered l held e h h.keys h.spelled good) [
      | inl done ↦ ok_is p (l.shape, l.terms) (sym read ∙ public_told l library held [] e.reply.body (parts_of l held e Public [] t b done h))
      | inr memory ↦ absurd (none_published p (ap public_of (sym (memory_only h.answer e.reply h.is memory)) ∙ read))
    ]
  where
    good : IsGoodRequest l.shape h.keys e.request.target e.request.body
    good = subst (λ (x : Target). IsGoodRequest l.shape h.keys x e.request.body) (sym t) b
