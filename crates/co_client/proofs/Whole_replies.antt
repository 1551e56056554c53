-- A reply that spells what it is to spell is not refused, and an end at the first cause.
use Rattle.std.proofs.Common.{◌≡◌, ℕ, zero, suc, ◌+◌, ◌*◌, ◌<◌, ◌≤◌, inl, inr, refl, sym, ap, subst, ◌∙◌, arith, List, [], ◌∷◌, ◌++◌, length, Result, Err}
use Rattle.std.specs.Prelude.{All, Some, slice_get}
use Rattle.std.proofs.lemmas.Option.{none-some, same_Some}
use Rattle.std.proofs.lemmas.List.Elements.{All-head, All-tail}
use Rattle.co_link.specs.declared.messages.Exchange.{Exchange}
use Rattle.co_noise.specs.Shapes.{Numbers}
use Rattle.co_text.specs.declared.found.Found.{Found}
use Rattle.co_wire.specs.declared.fault.WireFault.TheVariants.{Length as WrongLength, Range as WrongRange, OutOfMemory as NoMemory}
use Rattle.co_wire.specs.Lengths.{reply_size}
use Rattle.co_wire.proofs.Good_bodies.{good-list}
use Rattle.co_rounds.specs.Answers.{Spells}
use Rattle.co_client.specs.declared.fault.SearchFault.{SearchFault}
use Rattle.co_client.specs.declared.fault.SearchFault.TheVariants.{Link}
use Rattle.co_client.specs.Openings.{IsBadReply}
use Rattle.co_client.specs.Earlier.{begun}

-- a body that spells ciphertexts is not refused
pub spells_well : (n count size : ℕ) (body : List ℕ) (place : ℕ) → Spells n count body → size ≡ count * (28 * n) → IsBadReply size body place → ⊥
spells_well n count size body place s is (inl h) = wrong_length (length body) (good-list n count s.ciphers body (WrongLength (count * (28 * n)) (length body)) s.spelled (refl, refl, λ e. h.0 (e ∙ sym is)))
  where
    wrong_length : (found : ℕ) → WrongLength (count * (28 * n)) found ≡ NoMemory → ⊥
    wrong_length found e = absurd cc
spells_well n count size body place s is (inr h) = wrong_range place (good-list n count s.ciphers body (WrongRange place) s.spelled (h.0 ∙ is, h.1))
  where
    wrong_range : (at : ℕ) → WrongRange at ≡ NoMemory → ⊥
    wrong_range at e = absurd cc

-- an empty body is not refused where nothing is wanted
pub empty_well : (body : List ℕ) (place : ℕ) → body ≡ [] → IsBadReply 0 body place → ⊥
empty_well body place e (inl h) = h.0 (ap (λ (xs : List ℕ). length xs) e)
empty_well body place e (inr h) = omega (arith, ap (λ (xs : List ℕ). length xs) e, h.1.within)

-- the reply of an exchange is none that is refused for its body
abbrev pub IsWholeReply : Numbers → Exchange → Type 0
IsWholeReply s e = (place : ℕ) → IsBadReply (reply_size s e.request.target) e.reply.body place → ⊥

-- ---- lists of exchanges

pub got-within : {X : Type 0} (P : X → Type 0) (xs : List X) (i : ℕ) (x : X) → All P xs → slice_get xs i ≡ Some x → P x
got-within P [] i x all e = absurd (none-some x e)
got-within P (y ∷ ys) zero x all e = subst P (same_Some y x e) (All-head P y ys all)
got-within P (y ∷ ys) (suc i) x all e = got-within P ys i x (All-tail P y ys all) e

-- the same of all but the last
pub front-within : {X : Type 0} (P : X → Type 0) (xs : List X) (last : X) (i : ℕ) (x : X) → All P xs → slice_get (xs ++ last ∷ []) i ≡ Some x → i + 1 < length (xs ++ last ∷ []) → P x
front-within P [] last i x all e l = absurd (omega arith)
front-within P (y ∷ ys) last zero x all e l = subst P (same_Some y x e) (All-head P y ys all)
front-within P (y ∷ ys) last (suc i) x all e l = front-within P ys last i x (All-tail P y ys all) e (omega arith)

pub none-all : {X : Type 0} (P : X → Type 0) → All P []
none-all P i d l = absurd (omega arith)

pub more-all : {X : Type 0} (P : X → Type 0) (x : X) (xs : List X) → P x → All P xs → All P (x ∷ xs)
more-all P x xs p all zero d l = p
more-all P x xs p all (suc i) d l = all i d (omega arith)

-- ---- counts

pub begun-most : (result : Result Found SearchFault) (n : ℕ) → begun result n ≤ n + 1
begun-most (Err Link) n = omega arith
begun-most result n = omega arith
