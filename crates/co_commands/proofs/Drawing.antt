-- Which random words a search over a library takes.
use Rattle.std.proofs.Common.{◌≡◌, ℕ, List, [], ◌∷◌, length, None, Ok, Err, sym, ap, subst, ◌∙◌, arith}
use Rattle.std.specs.Prelude.{Result, IfOk, IfErr, slice_get, slice_index_or}
use Rattle.std.proofs.lemmas.List.{length-map, nil_from_length}
use Rattle.rand_core.specs.Stream.{Stream}
use Rattle.co_link.specs.declared.messages.Target.TheVariants.{Public}
use Rattle.co_link.specs.declared.messages.Exchange.{Exchange}
use Rattle.co_noise.specs.Shapes.{Numbers}
use Rattle.co_noise.specs.Bounds.{test_of}
use Rattle.co_bucket.specs.Lists.{bucket_count}
use Rattle.co_text.specs.Numbers.{numbers_of}
use Rattle.co_text.specs.declared.found.Found.{Found}
use Rattle.co_wire.specs.Public.{public_of}
use Rattle.co_library.specs.Libraries.{Parts, IsLibrary}
use Rattle.co_rounds.specs.Honest.{AreHonest, IsHonest, held_after}
use Rattle.co_rounds.specs.Plans.{Seen, trace, plan, IsWholePlan}
use Rattle.co_rounds.specs.Asked.{IsAsked}
use Rattle.co_rounds.proofs.Rounds.{public_told}
use Rattle.co_client.specs.Causes.{Search, Publishes, IsRead, IsCause, IsAnswered, Asks}
use Rattle.co_client.specs.Going.{GoesOn}
use Rattle.co_client.specs.declared.fault.SearchFault.{SearchFault}
use Rattle.co_client.specs.declared.fault.SearchFault.TheVariants.{NoPlacement}
use Rattle.co_client.proofs.Placed.{rows-long}
use Rattle.co_commands.specs.Words.{LocalWords}
use Rattle.co_commands.specs.Searches.{query_of}
use Rattle.co_commands.specs.Locals.{search_for, IsDrawn}
use Rattle.co_commands.proofs.Outcomes.{same_value}

-- ---- the numbers that are published

-- what the outside sees of a request
abbrev seen_of : Exchange → Seen
seen_of e = (e.request.target, length e.request.body)

five : (es : List Exchange) (s : Numbers) → trace es ≡ plan s → length es ≡ 5
five es s all = sym (length-map es seen_of) ∙ ap length all

-- and of the first
abbrev for_public : Seen
for_public = (Public, 0)

first_seen : (e : Exchange) (es : List Exchange) (s : Numbers) → trace (e ∷ es) ≡ plan s → seen_of e ≡ for_public
first_seen e es s all = ap (λ (seen : List Seen). slice_index_or seen 0 for_public) all

first_told : (l : Parts) → IsLibrary l → (e : Exchange) → IsHonest l None e → e.request.target ≡ Public → e.request.body ≡ [] → e.reply.status ≡ 200
    → public_of e.reply.body ≡ Ok (l.shape, l.terms)
first_told l library e honest target body status =
    public_told l library None [] e.reply.body
    (subst (IsHonest l None) (λ i. record { request = record { target = target i; body = body i }; reply = record { status = status i; body = e.reply.body } }) honest)

abbrev pub told : Numbers → List (List ℕ) → Numbers × List (List ℕ)
told shape names = (shape, names)

-- over all planned exchanges, honest to a library, the published numbers and terms are the library's
library_told : (run : Search) (l : Parts) (es : List Exchange) (s shape : Numbers) (names : List (List ℕ)) → IsLibrary l → AreHonest l None es → GoesOn run es
    → trace es ≡ plan s → Publishes es shape names → told shape names ≡ told l.shape l.terms
library_told run l es s shape names library honest going all p =
    let seen = first_seen p.first p.others s (subst (λ (xs : List Exchange). trace xs ≡ plan s) p.are all) in
    let first : IsHonest l None p.first × AreHonest l (held_after None p.first) p.others = subst (AreHonest l None) p.are honest in
    let taken : p.first.reply.status ≡ 200 = going.taken 0 p.first (ap (λ (xs : List Exchange). slice_get xs 0) p.are) (omega (arith, five es s all)) in
    same_value (public_of p.first.reply.body) (told shape names) (told l.shape l.terms) p.read
    (first_told l library p.first first.0 (ap (λ (x : Seen). x.0) seen) (nil_from_length p.first.request.body (ap (λ (x : Seen). x.1) seen)) taken)

-- ---- the draws

asked_by : (p : LocalWords) (l : Parts) (was is : Stream) (result : Result Found SearchFault) (es : List Exchange) (shape : Numbers) (names : List (List ℕ))
    (asks : Asks (search_for p was) es shape names result is) → length asks.rows ≡ bucket_count shape.hits → IsAnswered result
    → told shape names ≡ told l.shape l.terms → IsDrawn p l was is
asked_by p l was is result es shape names asks count answered same = record {
  rows = asks.rows;
  count = subst (λ (x : Numbers × List (List ℕ)). length asks.rows ≡ bucket_count x.0.hits) same count;
  bin = asks.bin;
  asked = asks.asked;
  drawn = subst (λ (x : Numbers × List (List ℕ)). IsAsked x.0 (numbers_of x.1 (query_of p.query)) asks.rows asks.bin was asks.asked is) same
      (subst (λ (rest : Stream). IsAsked shape (numbers_of names (query_of p.query)) asks.rows asks.bin was asks.asked rest) (sym (asks.left_is answered)) asks.drawn);
}

-- where a search ends with an answer or a refused placement, it was drawn by the library's numbers
pub is_drawn : (p : LocalWords) (l : Parts) (was is : Stream) (result : Result Found SearchFault) (es : List Exchange) → IsLibrary l → AreHonest l None es
    → (IsAnswered result → IsWholePlan es) → GoesOn (search_for p was) es
    → IfOk result (IsRead (search_for p was) es) → IfErr result (IsCause (search_for p was) es)
    → ((s : Numbers) (ts : List (List ℕ)) → Publishes es s ts → test_of s ≡ Ok s → Asks (search_for p was) es s ts result is)
    → IsAnswered result → IsDrawn p l was is
is_drawn p l was is (Ok found) es library honest whole going read refused asked answered =
    let w : IsWholePlan es = whole answered in
    let count : length es ≡ 5 = five es w.shape w.all in
    let ranked = read.read.ranked in
    let asks : Asks (search_for p was) es read.shape read.terms (Ok found) is = asked read.shape read.terms ranked.published ranked.passes in
    asked_by p l was is (Ok found) es read.shape read.terms asks
    (ap length (asks.placed_rows (omega (arith, count)) read.hits read.read.placed ranked read.read.placement) ∙ rows-long read.shape read.hits read.read.placed)
    answered
    (library_told (search_for p was) l es w.shape read.shape read.terms library honest going w.all ranked.published)
is_drawn p l was is (Err (NoPlacement documents buckets)) es library honest whole going read refused asked answered =
    let w : IsWholePlan es = whole answered in
    let count : length es ≡ 5 = five es w.shape w.all in
    let cause = refused.0 in
    let asks : Asks (search_for p was) es cause.shape cause.terms (Err (NoPlacement documents buckets)) is = asked cause.shape cause.terms cause.ranked.published cause.ranked.passes in
    asked_by p l was is (Err (NoPlacement documents buckets)) es cause.shape cause.terms asks
    (ap length (asks.unplaced_rows (omega (arith, count)) cause.hits documents buckets cause.ranked cause.unplaced) ∙ rows-long cause.shape cause.hits [])
    answered
    (library_told (search_for p was) l es w.shape cause.shape cause.terms library honest going w.all cause.ranked.published)
is_drawn p l was is (Err fault) es library honest whole going read refused asked answered = absurd answered
