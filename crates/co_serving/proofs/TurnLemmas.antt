-- One message after another.
use Rattle.std.proofs.Common.{◌≡◌, ℕ, ◌+◌, true, false, List, [], ◌∷◌, ◌++◌, length, Some, None, refl, sym, ap, ◌∙◌, subst, arith, append_assoc, append-nil}
use mathlib.Core.Bool.{true≢false}
use Rattle.co_link.specs.declared.messages.Target.{Target}
use Rattle.co_link.specs.declared.messages.Request.{Request}
use Rattle.co_link.specs.declared.messages.Reply.{Reply}
use Rattle.co_http.specs.Heads.{IsHead}
use Rattle.co_http.proofs.MessageHeads.{head_front, head_shorter, append_cancel}
use Rattle.co_serving.specs.declared.response.Response.{Response}
use Rattle.co_serving.specs.declared.response.Response.TheVariants.{Refused, WrongLength, Replied}
use Rattle.co_serving.specs.Conversation.{closes, closing_status, status_of, Turn, bad, long, refused, no_memory, replied, Turns, response_at, responses, AreOpen}
use Rattle.co_serving.proofs.RefusalLemmas.{refusal_closes}

-- ---- answers

-- an answer with no closing status stays open
pub stays_open : (a : Response) → closing_status a ≡ None → closes a ≡ false
stays_open (Refused status) none = absurd (cc)
stays_open (WrongLength wanted found) none = absurd (cc)
stays_open (Replied reply) none = refl

-- an answer with a closing status closes with it
pub closes_with : (a : Response) (status : ℕ) → closing_status a ≡ Some status → (closes a ≡ true) × (status ≡ status_of a)
closes_with (Refused s) status some = (refl, cc)
closes_with (WrongLength wanted found) status some = (refl, cc)
closes_with (Replied reply) status some = absurd (cc)

-- ---- responses

pub responses_more : (count : ℕ) (answers : List Response) (a : Response) → responses count (answers ++ a ∷ []) ≡ responses count answers ++ response_at (count + length answers) a
responses_more count [] a = let same : count ≡ count + 0 = omega arith in append-nil (response_at count a) ∙ ap (λ n. response_at n a) same
responses_more count (b ∷ more) a =
    let next : count + 1 + length more ≡ count + length (b ∷ more) = omega arith in
    ap (λ rest. response_at count b ++ rest) (responses_more (count + 1) more a)
    ∙ sym (append_assoc (response_at count b) (responses (count + 1) more) (response_at (count + 1 + length more) a))
    ∙ ap (λ n. response_at count b ++ responses (count + 1) more ++ response_at n a) next

pub stay_more : (answers : List Response) (a : Response) → AreOpen answers → closes a ≡ false → AreOpen (answers ++ a ∷ [])
stay_more [] a each last = (last, tt)
stay_more (b ∷ more) a each last = (each.0, stay_more more a each.1 last)

-- ---- turns

-- one more message after some that stay open
pub turns_more : {S : Type 0} (wanted : S → Target → ℕ) (steps : S → Request → Reply → S → Type 0) (s t u : S) (input rest after : List ℕ) (answers : List Response) (a : Response)
    → Turns wanted steps s input answers t rest → AreOpen answers → Turn wanted steps t rest a u after → Turns wanted steps s input (answers ++ a ∷ []) u after
turns_more {S} wanted steps s t u input rest after [] a turns each turn =
    let P : S → Type 0 = λ s. Turn wanted steps s rest a u after in
    let Q : List ℕ → Type 0 = λ input. Turn wanted steps s input a u after in
    (u, after, subst Q turns.1 (subst P turns.0 turn), λ closing. refl, (refl, refl))
turns_more wanted steps s t u input rest after (b ∷ more) a (m, between, first, last, turns) each turn =
    (m, between, first, λ closing. absurd (true≢false (sym closing ∙ each.0)), turns_more wanted steps m t u between rest after more a turns each.1 turn)

-- an answer that stays open is the service's reply
open_front : {S : Type 0} (wanted : S → Target → ℕ) (steps : S → Request → Reply → S → Type 0) (s t : S) (input : List ℕ) (a : Response) (rest : List ℕ)
    → Turn wanted steps s input a t rest → closes a ≡ false → (front : List ℕ) × (input ≡ front ++ rest)
open_front wanted steps s t input a rest (bad fault is same) stays = absurd (true≢false (sym (ap closes is) ∙ stays))
open_front wanted steps s t input a rest (long fault is same) stays = absurd (true≢false (sym (ap closes is) ∙ stays))
open_front wanted steps s t input a rest (refused head after reads is same) stays = absurd (true≢false (sym (refusal_closes (wanted s) head a is) ∙ stays))
open_front wanted steps s t input a rest (no_memory head after reads known is same) stays = absurd (true≢false (sym (ap closes is) ∙ stays))
open_front wanted steps s t input a rest (replied head target body reply reads known taken whole step is) stays =
    let front = head_front input head (body ++ rest) reads in
    (front.0 ++ body, front.1 ∙ sym (append_assoc front.0 body rest))

open_shorter : {S : Type 0} (wanted : S → Target → ℕ) (steps : S → Request → Reply → S → Type 0) (s t : S) (input : List ℕ) (a : Response) (rest more : List ℕ)
    → Turn wanted steps s (input ++ more) a t (rest ++ more) → closes a ≡ false → Turn wanted steps s input a t rest
open_shorter wanted steps s t input a rest more (bad fault is same) stays = absurd (true≢false (sym (ap closes is) ∙ stays))
open_shorter wanted steps s t input a rest more (long fault is same) stays = absurd (true≢false (sym (ap closes is) ∙ stays))
open_shorter wanted steps s t input a rest more (refused head after reads is same) stays = absurd (true≢false (sym (refusal_closes (wanted s) head a is) ∙ stays))
open_shorter wanted steps s t input a rest more (no_memory head after reads known is same) stays = absurd (true≢false (sym (ap closes is) ∙ stays))
open_shorter wanted steps s t input a rest more (replied head target body reply reads known taken whole step is) stays =
    let P : List ℕ → Type 0 = λ after. IsHead (input ++ more) (Some head) after in
    replied head target body reply (head_shorter input (body ++ rest) more head (subst P (sym (append_assoc body rest more)) reads)) known taken whole step is

-- what is left is the end of the input
pub turns_front : {S : Type 0} (wanted : S → Target → ℕ) (steps : S → Request → Reply → S → Type 0) (s t : S) (input : List ℕ) (answers : List Response) (rest : List ℕ)
    → Turns wanted steps s input answers t rest → AreOpen answers → (front : List ℕ) × (input ≡ front ++ rest)
turns_front wanted steps s t input [] rest turns each = ([], sym turns.1)
turns_front wanted steps s t input (a ∷ more) rest (m, after, first, last, turns) each =
    let one = open_front wanted steps s m input a after first each.0 in
    let others = turns_front wanted steps m t after more rest turns each.1 in
    (one.0 ++ others.0, one.1 ∙ ap (λ b. one.0 ++ b) others.1 ∙ sym (append_assoc one.0 others.0 rest))

-- bytes that no message reached may be left out
pub turns_shorter : {S : Type 0} (wanted : S → Target → ℕ) (steps : S → Request → Reply → S → Type 0) (s t : S) (input : List ℕ) (answers : List Response) (rest more : List ℕ)
    → Turns wanted steps s (input ++ more) answers t (rest ++ more) → AreOpen answers → Turns wanted steps s input answers t rest
turns_shorter wanted steps s t input [] rest more turns each = (turns.0, append_cancel rest input more turns.1)
turns_shorter {S} wanted steps s t input (a ∷ others) rest more (m, after, first, last, turns) each =
    let front = turns_front wanted steps m t after others (rest ++ more) turns each.1 in
    let is : after ≡ (front.0 ++ rest) ++ more = front.1 ∙ sym (append_assoc front.0 rest more) in
    let P : List ℕ → Type 0 = λ after. Turn wanted steps s (input ++ more) a m after in
    let Q : List ℕ → Type 0 = λ after. Turns wanted steps m after others t (rest ++ more) in (
      m,
      front.0 ++ rest,
      open_shorter wanted steps s m input a (front.0 ++ rest) more (subst P is first) each.0,
      last,
      turns_shorter wanted steps m t (front.0 ++ rest) others rest more (subst Q is turns) each.1,
    )
