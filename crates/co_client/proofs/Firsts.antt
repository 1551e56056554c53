-- The first coefficient that is no two bytes, as it is looked for.
use Rattle.std.proofs.Common.{◌≡◌, ℕ, ◌<◌, ap, ◌∙◌, ⊎_elim, refl, arith, Bool, true, false, cond, eqb, List, length, get_or, Option, Some, None, Ok, Err}
use Rattle.std.specs.Prelude.{nat_lt}
use Rattle.std.specs.List.{position, position_or_len}
use Rattle.std.proofs.lemmas.Bool.{cases_lt, ltb-false, eqb-true, ne_eqb}
use Rattle.std.proofs.lemmas.List.Sums.{fails_before_first}
use Rattle.std.proofs.lemmas.List.Quantifiers.{position-Some}
use Rattle.co_math.specs.Coefficients.{AreBelow}
use Rattle.co_link.specs.declared.messages.Target.{Target}
use Rattle.co_slots.specs.Payloads.{IsPayload, IsFirstNoByte}
use Rattle.co_rounds.proofs.Retrievable.{bytes_read, payload_small}
use Rattle.co_client.specs.declared.fault.SearchFault.TheVariants.{NotByte}
use Rattle.co_client.specs.Records.{bytes_or_fault, opened_bytes}

-- nothing passes where nothing is found
none-passes : (p : ℕ → Bool) (xs : List ℕ) (b : Bool) → nat_lt (position_or_len p xs) (length xs) ≡ b → cond b (Some (position_or_len p xs)) None ≡ None → (k : ℕ) → k < length xs → p (get_or xs k 0) ≡ false
none-passes p xs true less is k l = absurd cc
none-passes p xs false over is k l = fails_before_first p xs k 0 (omega (arith, ltb-false _ _ over))

differ : (b : Bool) → b ≡ true → b ≡ false → ⊥
differ b e f = absurd cc

pub no-bytes-found : (coeffs : List ℕ) (place : ℕ) → IsFirstNoByte coeffs place → position (λ x. eqb x 65536) coeffs ≡ Some place
no-bytes-found coeffs place h = step (position (λ x. eqb x 65536) coeffs) refl
  where
    here : eqb (get_or coeffs place 0) 65536 ≡ true
    here = ap (λ (x : ℕ). eqb x 65536) h.here

    other : (k : ℕ) → k < place → eqb (get_or coeffs k 0) 65536 ≡ false
    other k l = ne_eqb (get_or coeffs k 0) 65536 (h.before k l)

    step : (o : Option ℕ) → position (λ x. eqb x 65536) coeffs ≡ o → o ≡ Some place
    step None e = absurd (differ _ here (none-passes (λ x. eqb x 65536) coeffs (nat_lt (position_or_len (λ x. eqb x 65536) coeffs) (length coeffs)) refl e place h.within))
    step (Some i) e =
        let at = position-Some (λ x. eqb x 65536) coeffs i 0 e in
        ap (λ (k : ℕ). Some k)
        (⊎_elim (λ u. absurd (differ _ at.1 (other i u)))
        (λ u. ⊎_elim (λ v. absurd (differ _ here (at.2 place v))) (λ v. omega arith) (cases_lt place i))
        (cases_lt i place))

pub bytes-found : (coeffs : List ℕ) → AreBelow 65536 coeffs → position (λ x. eqb x 65536) coeffs ≡ None
bytes-found coeffs h = step (position (λ x. eqb x 65536) coeffs) refl
  where
    step : (o : Option ℕ) → position (λ x. eqb x 65536) coeffs ≡ o → o ≡ None
    step None e = refl
    step (Some i) e =
        let at = position-Some (λ x. eqb x 65536) coeffs i 0 e in
        let is : get_or coeffs i 0 ≡ 65536 = eqb-true (get_or coeffs i 0) 65536 at.1 in
        absurd (omega (arith, is, h i at.0))

-- what is read of an opened reply
pub opened-ok : (target : Target) (reply : ℕ) (coeffs bytes : List ℕ) → IsPayload bytes coeffs → opened_bytes target reply coeffs ≡ Ok bytes
unfolding opened_bytes
opened-ok target reply coeffs bytes payload = ap (bytes_or_fault target reply coeffs) (bytes-found coeffs (payload_small bytes coeffs payload)) ∙ ap (λ (x : List ℕ). Ok x) (bytes_read bytes coeffs payload)

pub opened-no : (target : Target) (reply place : ℕ) (coeffs : List ℕ) → IsFirstNoByte coeffs place → opened_bytes target reply coeffs ≡ Err (NotByte target reply place)
unfolding opened_bytes
opened-no target reply place coeffs first = ap (bytes_or_fault target reply coeffs) (no-bytes-found coeffs place first)
