-- A part of a reply, opened one ciphertext after another.
use Rattle.std.proofs.Common.{◌≡◌, ℕ, ◌+◌, ◌*◌, ◌<◌, ◌≤◌, sym, ap, subst, ◌∙◌, ⊎_elim, arith, ℤ, List, [], ◌∷◌, ◌++◌, length, drop, Result, Ok, Err}
use Rattle.std.specs.Prelude.{All, IfOk, IfErr}
use Rattle.std.proofs.lemmas.Bool.{cases_lt}
use Rattle.std.proofs.Math.Nat.{mul-le-mul_right}
use Rattle.std.proofs.lemmas.List.Concat.{flat_map-cons}
use Rattle.std.proofs.lemmas.List.{append-nil, get_or-take, get_or-drop, length-take, length-drop}
use Rattle.std.proofs.lemmas.List.Elements.{All-get_or, All-from_get_or}
use Rattle.co_slots.specs.Payloads.{IsPayload}
use Rattle.co_slots.specs.Faults.{IsCause}
use Rattle.co_slots.specs.declared.payloads.ByteFault.{ByteFault}
use Rattle.co_slots.specs.declared.payloads.ByteFault.TheVariants.{NotByte, OutOfMemory}
use Rattle.co_bfv.specs.Ciphertexts.{Ciphertext, ciphertext_degree}
use Rattle.co_bfv.specs.Totals.{ciphertext_at, no_ciphertext}
use Rattle.co_bfv.specs.Encryptions.{decrypted}
use Rattle.co_pir.specs.Openings.{opened_reply, IsCauseFrom}
use Rattle.co_pir.proofs.Revealing.{IsOpening, length-decrypted, payload-append, opening-first, opening-more, opening-all, opening-fault}
use Rattle.co_wire.specs.Bodies.{SpellsCiphers}
use Rattle.co_rounds.proofs.Retrievable.{payload_small}
use Rattle.co_client.specs.Openings.{AddsPayload, OpensTo, part_of, IsPlaceBelow}
use Rattle.co_client.proofs.Spelled.{spelled-long}

-- ---- one ciphertext

opened-single : (secret : List ℤ) (c : Ciphertext) → opened_reply secret (c ∷ []) ≡ decrypted secret c
opened-single secret c = flat_map-cons (decrypted secret) c [] ∙ append-nil (decrypted secret c)

pub at-opened : (n : ℕ) (secret : List ℤ) (body : List ℕ) (at : ℕ) (c : Ciphertext) (r : Result (List ℕ) ByteFault) → ((cs : List Ciphertext) (count : ℕ) → SpellsCiphers n count cs body → c ≡ ciphertext_at cs at)
    → IfOk r (λ bytes. IsPayload bytes (opened_reply secret (c ∷ []))) → IfErr r (IsCause (opened_reply secret (c ∷ []))) → OpensTo n body (λ cs. decrypted secret (ciphertext_at cs at)) r
at-opened n secret body at c (Ok bytes) is h f = λ cs count s. subst (λ (x : List ℕ). IsPayload bytes x) (opened-single secret c ∙ ap (decrypted secret) (is cs count s)) h
at-opened n secret body at c (Err fault) is h f = λ cs count s. subst (λ (x : List ℕ). IsCause x fault) (opened-single secret c ∙ ap (decrypted secret) (is cs count s)) f

place-below : (n : ℕ) (secret : List ℤ) (c : Ciphertext) (fault : ByteFault) → ciphertext_degree c ≡ n → IsCause (opened_reply secret (c ∷ [])) fault → IsPlaceBelow n fault
place-below n secret c (NotByte place) e h = omega (arith, h.within, ap length (opened-single secret c), length-decrypted secret c, e)
place-below n secret c OutOfMemory e h = tt

pub at-within : (n : ℕ) (secret : List ℤ) (c : Ciphertext) (r : Result (List ℕ) ByteFault) → ciphertext_degree c ≡ n → IfErr r (IsCause (opened_reply secret (c ∷ []))) → IfErr r (IsPlaceBelow n)
at-within n secret c (Ok bytes) e h = tt
at-within n secret c (Err fault) e h = place-below n secret c fault e h

at-length : (n : ℕ) (secret : List ℤ) (c : Ciphertext) (bytes : List ℕ) → ciphertext_degree c ≡ n → IsPayload bytes (opened_reply secret (c ∷ [])) → length bytes ≡ 2 * n
at-length n secret c bytes e h = omega (arith, h.len, ap length (opened-single secret c), length-decrypted secret c, e)

pub at-long : (n : ℕ) (secret : List ℤ) (c : Ciphertext) (r : Result (List ℕ) ByteFault) → ciphertext_degree c ≡ n → IfOk r (λ bytes. IsPayload bytes (opened_reply secret (c ∷ []))) → IfOk r (λ bytes. length bytes ≡ 2 * n)
at-long n secret c (Ok bytes) e h = at-length n secret c bytes e h
at-long n secret c (Err fault) e h = tt

-- ---- parts

pub part-at : (from count : ℕ) (cs : List Ciphertext) (k : ℕ) → k < count → ciphertext_at (part_of from count cs) k ≡ ciphertext_at cs (from + k)
part-at from count cs k l = get_or-take count (drop from cs) k no_ciphertext l ∙ get_or-drop from cs k no_ciphertext

pub part-long : (from count : ℕ) (cs : List Ciphertext) → from + count ≤ length cs → length (part_of from count cs) ≡ count
part-long from count cs l = omega (arith, length-take count (drop from cs), length-drop from cs)

part-degrees : (n from count : ℕ) (cs : List Ciphertext) → from + count ≤ length cs → All (λ c. ciphertext_degree c ≡ n) cs → All (λ c. ciphertext_degree c ≡ n) (part_of from count cs)
part-degrees n from count cs l h = All-from_get_or (λ c. ciphertext_degree c ≡ n) (part_of from count cs) no_ciphertext
    (λ i u.
    let below : i < count = omega (arith, part-long from count cs l) in
    subst (λ (c : Ciphertext). ciphertext_degree c ≡ n) (sym (part-at from count cs i below)) (All-get_or (λ c. ciphertext_degree c ≡ n) cs (from + i) no_ciphertext (omega arith) h))

pub room-fits : (n all count : ℕ) → 0 < n → count * (28 * n) ≤ all * (28 * n) → count ≤ all
room-fits n all count p h = ⊎_elim (λ u. absurd (over u)) (λ u. u) (cases_lt all count)
  where
    over : all < count → ⊥
    over u =
        let next : all + 1 ≤ count = omega arith in
        omega (arith, mul-le-mul_right (28 * n) next, h, p)

-- the ciphertexts that the body has at least
pub part-within : (n all from count : ℕ) (cs : List Ciphertext) (body : List ℕ) → 0 < n → SpellsCiphers n all cs body → (from + count) * (28 * n) ≤ length body → from + count ≤ length cs
part-within n all from count cs body p h l =
    omega (arith, h.ciphers.count_is, room-fits n all (from + count) p (omega (arith, l, spelled-long n all cs body h)))

-- what is opened of the first chunks of a part
abbrev pub IsOpenedTo : ℕ → List ℤ → List ℕ → ℕ → ℕ → ℕ → List ℕ → Type 0
IsOpenedTo n secret body from count chunk bytes = (cs : List Ciphertext) (all : ℕ) → SpellsCiphers n all cs body → IsOpening secret (part_of from count cs) chunk bytes

module _ (n : ℕ) (secret : List ℤ) (body : List ℕ) (from count : ℕ) (positive : 0 < n) (room : (from + count) * (28 * n) ≤ length body) where
  pub opened-none : (bytes : List ℕ) → bytes ≡ [] → IsOpenedTo n secret body from count 0 bytes
  opened-none bytes e cs all h = opening-first secret (part_of from count cs) bytes e

  pub opened-more : (chunk : ℕ) (bytes next : List ℕ) → chunk < count → IsOpenedTo n secret body from count chunk bytes
      → ((cs : List Ciphertext) (all : ℕ) → SpellsCiphers n all cs body → AddsPayload bytes next (decrypted secret (ciphertext_at cs (from + chunk))))
      → IsOpenedTo n secret body from count (chunk + 1) next
  opened-more chunk bytes next l h f cs all s =
      let fits = part-within n all from count cs body positive s room in
      let long = part-long from count cs fits in
      let c = ciphertext_at cs (from + chunk) in
      let adds = f cs all s in
      opening-more secret (part_of from count cs) chunk c bytes next (h cs all s) (omega (arith, long)) (sym (part-at from count cs chunk l))
      (λ coeffs payload. subst (λ (x : List ℕ). IsPayload x (coeffs ++ decrypted secret c)) (sym adds.added) (payload-append bytes adds.piece coeffs (decrypted secret c) payload adds.payload))
      (payload_small adds.piece (decrypted secret c) adds.payload)

  pub opened-all : (chunk : ℕ) (bytes : List ℕ) → count ≤ chunk → IsOpenedTo n secret body from count chunk bytes → (cs : List Ciphertext) (all : ℕ) → SpellsCiphers n all cs body → IsPayload bytes (opened_reply secret (part_of from count cs))
  opened-all chunk bytes l h cs all s =
      let long = part-long from count cs (part-within n all from count cs body positive s room) in
      opening-all secret (part_of from count cs) chunk bytes (h cs all s) (omega (arith, long))

  pub opened-fault : (chunk : ℕ) (bytes : List ℕ) (fault : ByteFault) → chunk < count → IsOpenedTo n secret body from count chunk bytes
      → ((cs : List Ciphertext) (all : ℕ) → SpellsCiphers n all cs body → IsCauseFrom (chunk * n) (decrypted secret (ciphertext_at cs (from + chunk))) fault)
      → (cs : List Ciphertext) (all : ℕ) → SpellsCiphers n all cs body → IsCause (opened_reply secret (part_of from count cs)) fault
  opened-fault chunk bytes fault l h f cs all s =
      let fits = part-within n all from count cs body positive s room in
      let long = part-long from count cs fits in
      opening-fault secret (part_of from count cs) n chunk (ciphertext_at cs (from + chunk)) bytes fault (part-degrees n from count cs fits s.ciphers.degrees) (h cs all s) (omega (arith, long)) (sym (part-at from count cs chunk l)) (f cs all s)
