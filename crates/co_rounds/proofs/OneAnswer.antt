-- A request has one answer under the keys that are held, but for want of memory.
use Rattle.std.proofs.Common.{◌≡◌, ◌≢◌, ◌⊎◌, ℕ, ◌*◌, refl, sym, ap, subst, ◌∙◌, arith, inl, inr, List, [], ◌∷◌, length, Option, Some, None}
use Rattle.std.proofs.lemmas.Bool.{cases_order}
use Rattle.co_link.specs.declared.messages.Target.{Target}
use Rattle.co_link.specs.declared.messages.Target.TheVariants.{Public, Keys as ForKeys, Score, Meta, Document}
use Rattle.co_link.specs.declared.messages.Request.{Request}
use Rattle.co_link.specs.declared.messages.Reply.{Reply}
use Rattle.co_link.specs.declared.messages.Exchange.{Exchange}
use Rattle.co_math.specs.Coefficients.{IsDegree}
use Rattle.co_noise.specs.Shapes.{Numbers, keyword_blocks}
use Rattle.co_noise.proofs.Ranges.{ranges}
use Rattle.co_bucket.specs.Lists.{bucket_count}
use Rattle.co_bfv.specs.Ciphertexts.{Ciphertext}
use Rattle.co_bfv.specs.Totals.{ciphertext_at}
use Rattle.co_switch.specs.Keys.{Keys}
use Rattle.co_matvec.specs.Replies.{AreScoreReplies}
use Rattle.co_matvec.proofs.Only.{replies_only}
use Rattle.co_pir.specs.Replies.{retrieved}
use Rattle.co_wire.specs.declared.fault.WireFault.{WireFault}
use Rattle.co_wire.specs.declared.fault.WireFault.TheVariants.{Length as WrongLength, Range as WrongRange, Public as WrongPublic, OutOfMemory as NoMemory}
use Rattle.co_wire.specs.Bodies.{IsFirstOutOfRange, ciphers_bytes}
use Rattle.co_wire.specs.BadBodies.{IsBadBody}
use Rattle.co_wire.specs.Lengths.{request_size}
use Rattle.co_wire.proofs.One_value.{one-list, one-key-set}
use Rattle.co_wire.proofs.Good_bodies.{good-list, good-keys}
use Rattle.co_library.specs.Libraries.{Parts, IsLibrary}
use Rattle.co_rounds.specs.Serving.{weights_of, gathered, bin_table}
use Rattle.co_rounds.specs.Answers.{IsDone, IsGoodRequest, IsAnswer, LacksKeys, reply_of}
use Rattle.co_rounds.specs.Honest.{IsHonest, AreHeld}
use Rattle.co_rounds.specs.declared.answer.Answer.{Answer}
use Rattle.co_rounds.specs.declared.answer.Answer.TheVariants.{Done, Length, NoKeys, Range, OutOfMemory}

-- ---- bodies

first_one : (body : List ℕ) (p r : ℕ) → IsFirstOutOfRange body p → IsFirstOutOfRange body r → p ≡ r
first_one body p r a b = elim (cases_order a.which b.which) [
  | inl same ↦ a.is ∙ ap (λ (k : ℕ). 7 * k) same ∙ sym b.is
  | inr (inl below) ↦ absurd (omega (arith, b.before a.which below, a.here))
  | inr (inr above) ↦ absurd (omega (arith, a.before b.which above, b.here))
]

-- an empty body has no fault
none_bad : (body : List ℕ) (fault : WireFault) → body ≡ [] → IsBadBody 0 body fault → fault ≡ NoMemory
none_bad body (WrongLength wanted found) e h = absurd (h.2 (h.1 ∙ ap length e ∙ sym h.0))
none_bad body (WrongRange place) e h = absurd (omega (arith, h.1.within, ap length e))
none_bad body (WrongPublic place) e h = absurd h
none_bad body NoMemory e h = refl

-- nor has a good one
pub good_body : (s : Numbers) (held : Option Keys) (t : Target) (body : List ℕ) (fault : WireFault) → IsGoodRequest s held t body → IsBadBody (request_size s t) body fault → fault ≡ NoMemory
good_body s held Public body fault h bad = none_bad body fault h bad
good_body s held ForKeys body fault h bad = good-keys s h.keys body fault h.spelled bad
good_body s None Score body fault h bad = absurd h
good_body s (Some keys) Score body fault h bad = good-list s.degree (keyword_blocks s) h.ciphers body fault h.spelled bad
good_body s None Meta body fault h bad = absurd h
good_body s (Some keys) Meta body fault h bad = good-list s.degree (bucket_count s.hits) h.ciphers body fault h.spelled bad
good_body s None Document body fault h bad = absurd h
good_body s (Some keys) Document body fault h bad =
    let one : 28 * s.degree ≡ 1 * (28 * s.degree) = omega arith in
    good-list s.degree 1 h.ciphers body fault h.spelled (subst (λ (size : ℕ). IsBadBody size body fault) one bad)

-- what was done was good
done_good : (l : Parts) (held : Option Keys) (t : Target) (body reply : List ℕ) → IsDone l held t body reply → IsGoodRequest l.shape held t body
done_good l held Public body reply h = h.0
done_good l held ForKeys body reply h = h.0
done_good l None Score body reply h = absurd h
done_good l (Some keys) Score body reply h = record { ciphers = h.queries; spelled = h.asked }
done_good l None Meta body reply h = absurd h
done_good l (Some keys) Meta body reply h = record { ciphers = h.queries; spelled = h.asked }
done_good l None Document body reply h = absurd h
done_good l (Some keys) Document body reply h = record { ciphers = h.query ∷ []; spelled = h.asked }

not_memory_length : (wanted found : ℕ) → WrongLength wanted found ≡ NoMemory → ⊥
not_memory_length wanted found e = absurd cc

not_memory_range : (place : ℕ) → WrongRange place ≡ NoMemory → ⊥
not_memory_range place e = absurd cc

-- a good request lacks no keys
good_lacks : (s : Numbers) (held : Option Keys) (t : Target) (body : List ℕ) → IsGoodRequest s held t body → LacksKeys held t → ⊥
good_lacks s held Public body h lacks = let e = lacks.wants in absurd cc
good_lacks s held ForKeys body h lacks = let e = lacks.wants in absurd cc
good_lacks s None Score body h lacks = absurd h
good_lacks s (Some keys) Score body h lacks = let e = lacks.none in absurd cc
good_lacks s None Meta body h lacks = absurd h
good_lacks s (Some keys) Meta body h lacks = let e = lacks.none in absurd cc
good_lacks s None Document body h lacks = absurd h
good_lacks s (Some keys) Document body h lacks = let e = lacks.none in absurd cc

-- so it is answered by what is done, or for want of memory
pub IsServed : Answer → Type 0
IsServed (Done reply) = Unit {0}
IsServed OutOfMemory = Unit {0}
IsServed (Length wanted found) = ⊥
IsServed NoKeys = ⊥
IsServed (Range place) = ⊥

pub good_served : (l : Parts) (held : Option Keys) (r : Request) (a : Answer) → IsAnswer l held r a → IsGoodRequest l.shape held r.target r.body → IsServed a
unfolding IsServed
good_served l held r (Done reply) h good = tt
good_served l held r OutOfMemory h good = tt
good_served l held r (Length w f) h good = absurd (not_memory_length w f (good_body l.shape held r.target r.body (WrongLength w f) good h))
good_served l held r NoKeys h good = absurd (good_lacks l.shape held r.target r.body good h.1)
good_served l held r (Range p) h good = absurd (not_memory_range p (good_body l.shape held r.target r.body (WrongRange p) good (h.0, h.2)))

status_served : (a : Answer) (reply : Reply) → IsServed a → reply ≡ reply_of a → (reply.status ≡ 200) ⊎ (reply.status ≡ 503)
unfolding IsServed
status_served (Done body) reply h e = inl (ap (λ (r : Reply). r.status) e)
status_served OutOfMemory reply h e = inr (ap (λ (r : Reply). r.status) e)
status_served (Length w f) reply h e = absurd h
status_served NoKeys reply h e = absurd h
status_served (Range p) reply h e = absurd h

-- ---- replies

done_one : (l : Parts) → IsDegree l.shape.degree → (held : Option Keys) (t : Target) (body r s : List ℕ) → IsDone l held t body r → IsDone l held t body s → r ≡ s
done_one l d held Public body r s a b = a.1 ∙ sym b.1
done_one l d held ForKeys body r s a b = a.1 ∙ sym b.1
done_one l d None Score body r s a b = absurd a
done_one l d (Some keys) Score body r s a b =
    let queries : a.queries ≡ b.queries = one-list l.shape.degree (keyword_blocks l.shape) a.queries b.queries body a.asked b.asked in
    let scores : a.scores ≡ b.scores = replies_only (weights_of l) keys b.queries b.scores d b.scored a.scores (subst (λ (cs : List Ciphertext). AreScoreReplies (weights_of l) keys cs a.scores) queries a.scored) in
    a.is ∙ ap ciphers_bytes scores ∙ sym b.is
done_one l d None Meta body r s a b = absurd a
done_one l d (Some keys) Meta body r s a b =
    a.is ∙ ap (λ (cs : List Ciphertext). ciphers_bytes (gathered l keys cs)) (one-list l.shape.degree (bucket_count l.shape.hits) a.queries b.queries body a.asked b.asked) ∙ sym b.is
done_one l d None Document body r s a b = absurd a
done_one l d (Some keys) Document body r s a b =
    a.is ∙ ap (λ (cs : List Ciphertext). ciphers_bytes (retrieved (bin_table l) keys (ciphertext_at cs 0))) (one-list l.shape.degree 1 (a.query ∷ []) (b.query ∷ []) body a.asked b.asked) ∙ sym b.is

-- ---- answers

pub one-answer : (l : Parts) → IsLibrary l → (held : Option Keys) (r : Request) (a b : Answer) → a ≢ OutOfMemory → b ≢ OutOfMemory → IsAnswer l held r a → IsAnswer l held r b → a ≡ b
unfolding IsServed
one-answer l h held r OutOfMemory b some other x y = absurd (some refl)
one-answer l h held r (Length w f) OutOfMemory some other x y = absurd (other refl)
one-answer l h held r NoKeys OutOfMemory some other x y = absurd (other refl)
one-answer l h held r (Range p) OutOfMemory some other x y = absurd (other refl)
one-answer l h held r (Done s) OutOfMemory some other x y = absurd (other refl)
one-answer l h held r (Length w f) (Length v g) some other x y = (λ t. Length ((x.0 ∙ sym y.0) t) ((x.1 ∙ sym y.1) t))
one-answer l h held r (Length w f) NoKeys some other x y = absurd (x.2 (x.1 ∙ y.0 ∙ sym x.0))
one-answer l h held r (Length w f) (Range p) some other x y = absurd (x.2 (x.1 ∙ y.0 ∙ sym x.0))
one-answer l h held r (Length w f) (Done s) some other x y = absurd (good_served l held r (Length w f) x (done_good l held r.target r.body s y))
one-answer l h held r NoKeys (Length w f) some other x y = absurd (y.2 (y.1 ∙ x.0 ∙ sym y.0))
one-answer l h held r NoKeys NoKeys some other x y = refl
one-answer l h held r NoKeys (Range p) some other x y = absurd (y.1 x.1)
one-answer l h held r NoKeys (Done s) some other x y = absurd (good_served l held r NoKeys x (done_good l held r.target r.body s y))
one-answer l h held r (Range p) (Length w f) some other x y = absurd (y.2 (y.1 ∙ x.0 ∙ sym y.0))
one-answer l h held r (Range p) NoKeys some other x y = absurd (x.1 y.1)
one-answer l h held r (Range p) (Range o) some other x y = ap Range (first_one r.body p o x.2 y.2)
one-answer l h held r (Range p) (Done s) some other x y = absurd (good_served l held r (Range p) x (done_good l held r.target r.body s y))
one-answer l h held r (Done s) (Length w f) some other x y = absurd (good_served l held r (Length w f) y (done_good l held r.target r.body s x))
one-answer l h held r (Done s) NoKeys some other x y = absurd (good_served l held r NoKeys y (done_good l held r.target r.body s x))
one-answer l h held r (Done s) (Range p) some other x y = absurd (good_served l held r (Range p) y (done_good l held r.target r.body s x))
one-answer l h held r (Done s) (Done u) some other x y = ap Done (done_one l (ranges l.shape h.published.good.ranges).degree held r.target r.body s u x y)

-- ---- held keys

held_one : (s : Numbers) (held : Option (List ℕ)) (a b : Option Keys) → AreHeld s held a → AreHeld s held b → a ≡ b
held_one s None None None x y = refl
held_one s None (Some keys) b x y = absurd x
held_one s None None (Some keys) x y = absurd y
held_one s (Some body) None b x y = absurd x
held_one s (Some body) (Some keys) None x y = absurd y
held_one s (Some body) (Some keys) (Some others) x y = ap Some (one-key-set s keys others body x y)

pub good_answered : (l : Parts) (held : Option (List ℕ)) (e : Exchange) → IsHonest l held e → (keys : Option Keys) → AreHeld l.shape held keys
    → IsGoodRequest l.shape keys e.request.target e.request.body → (e.reply.status ≡ 200) ⊎ (e.reply.status ≡ 503)
good_answered l held e h keys are good =
    status_served h.answer e.reply
    (good_served l h.keys e.request h.answer h.answers (subst (λ (k : Option Keys). IsGoodRequest l.shape k e.request.target e.request.body) (held_one l.shape held keys h.keys are h.spelled) good))
    h.is
