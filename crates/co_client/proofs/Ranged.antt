-- The first residue out of range of a body, the front of which spells ciphertexts.
use Rattle.std.proofs.Common.{◌≡◌, ℕ, zero, suc, ◌+◌, ◌-◌, ◌*◌, ◌%◌, ◌<◌, ◌≤◌, refl, sym, ap, subst, ◌∙◌, ⊎_elim, arith, cond, eqb, List, [], ◌∷◌, ◌++◌, length, take, drop}
use Rattle.std.specs.Int.{w64, from_le_bytes}
use Rattle.std.proofs.lemmas.Bool.{cases_lt}
use Rattle.std.proofs.lemmas.List.{drop-drop, drop-take, length-take, length-drop, take-take}
use Rattle.co_math.specs.Parameters.{first_modulus, second_modulus}
use Rattle.co_bfv.specs.Ciphertexts.{Ciphertext}
use Rattle.co_wire.specs.declared.fault.WireFault.{WireFault}
use Rattle.co_wire.specs.declared.fault.WireFault.TheVariants.{Length, Range, Public, OutOfMemory}
use Rattle.co_wire.specs.Bodies.{SpellsCiphers, residue_at, modulus_at, IsFirstOutOfRange}
use Rattle.co_wire.proofs.Good_bodies.{good-list}
use Rattle.co_client.specs.Openings.{AreSpelled}
use Rattle.co_client.proofs.Spelled.{spelled-long}

no_range : (place : ℕ) → Range place ≡ OutOfMemory → ⊥
no_range place e = subst (λ (f : WireFault). elim f as (λ _. Type 0) [ Range p ↦ Unit {0} | Length w d ↦ ⊥ | Public p ↦ ⊥ | OutOfMemory ↦ ⊥ ]) e tt

-- what is spelled is in range
in-range : (n count : ℕ) (cs : List Ciphertext) (body : List ℕ) → SpellsCiphers n count cs body → (m k : ℕ) → k < m → 7 * k < length body → residue_at body k < modulus_at k
in-range n count cs body h zero k l u = absurd (omega arith)
in-range n count cs body h (suc m) k l u =
    ⊎_elim (λ (v : residue_at body k < modulus_at k). v)
    (λ (v : modulus_at k ≤ residue_at body k).
    absurd (no_range (7 * k) (good-list n count cs body (Range (7 * k)) h (
      spelled-long n count cs body h,
      record {
        which = k;
        is = refl;
        within = u;
        here = v;
        before = λ j w. in-range n count cs body h m j (omega arith) (omega arith);
      },
    ))))
    (cases_lt (residue_at body k) (modulus_at k))

-- a residue of a part is one of the whole
residue-within : (body : List ℕ) (size start i k : ℕ) → start ≡ 7 * i → 7 * k + 7 ≤ size → residue_at (take size (drop start body)) k ≡ residue_at body (i + k)
unfolding residue_at
residue-within body size start i k e room =
    let rest : 7 * k + (size - 7 * k) ≡ size = omega arith in
    let place : start + 7 * k ≡ 7 * (i + k) = omega (arith, e) in
    ap (λ (ys : List ℕ). from_le_bytes w64 (ys ++ 0 ∷ []))
    (ap (λ (s : ℕ). take 7 (drop (7 * k) (take s (drop start body)))) (sym rest)
    ∙ ap (λ (ys : List ℕ). take 7 ys) (drop-take (7 * k) (size - 7 * k) (drop start body))
    ∙ take-take 7 (size - 7 * k) (drop (7 * k) (drop start body)) (omega arith)
    ∙ ap (λ (ys : List ℕ). take 7 ys) (drop-drop (7 * k) start body)
    ∙ ap (λ (s : ℕ). take 7 (drop s body)) place)

residue-front : (body : List ℕ) (size k : ℕ) → 7 * k + 7 ≤ size → residue_at (take size body) k ≡ residue_at body k
residue-front body size k room = ap (λ (i : ℕ). residue_at (take size body) i) refl ∙ residue-within body size 0 0 k refl room ∙ ap (residue_at body) (omega arith)

modulus-behind : (i k : ℕ) → i % 2 ≡ 0 → modulus_at (i + k) ≡ modulus_at k
modulus-behind i k e = let same : (i + k) % 2 ≡ k % 2 = omega (arith, e) in ap (λ (r : ℕ). cond (eqb r 0) first_modulus second_modulus) same

-- what is spelled before a part, and the part's first residue out of range
pub first-behind : (n at : ℕ) (body : List ℕ) (place : ℕ) → (at + 1) * (28 * n) ≤ length body → AreSpelled n at (take (at * (28 * n)) body) → IsFirstOutOfRange (take (28 * n) (drop (at * (28 * n)) body)) place
    → IsFirstOutOfRange body (at * (28 * n) + place)
first-behind n at body place room front h =
    let size : (at + 1) * (28 * n) ≡ at * (28 * n) + 28 * n = omega arith in
    let long : length (take (28 * n) (drop (at * (28 * n)) body)) ≡ 28 * n = omega (arith, length-take (28 * n) (drop (at * (28 * n)) body), length-drop (at * (28 * n)) body) in
    let start : at * (28 * n) ≡ 7 * (4 * n * at) = omega arith in
    let even : 4 * n * at % 2 ≡ 0 = omega arith in
    let full : (k : ℕ) → k ≤ h.which → 7 * k + 7 ≤ 28 * n = λ k u. omega (arith, h.is, h.within, long) in
    record {
      which = 4 * n * at + h.which;
      is = omega (arith, h.is, start);
      within = omega (arith, h.within, long, size, room);
      here = subst (λ (r : ℕ). modulus_at (4 * n * at + h.which) ≤ r) (residue-within body (28 * n) (at * (28 * n)) (4 * n * at) h.which start (full h.which (omega arith)))
          (subst (λ (m : ℕ). m ≤ residue_at (take (28 * n) (drop (at * (28 * n)) body)) h.which) (sym (modulus-behind (4 * n * at) h.which even)) h.here);
      before = λ k u. ⊎_elim (λ v. early k v) (λ v. late k v u) (cases_lt k (4 * n * at));
    }
  where
    early : (k : ℕ) → k < 4 * n * at → residue_at body k < modulus_at k
    early k v =
        let room7 : 7 * k + 7 ≤ at * (28 * n) = omega arith in
        let whole : length (take (at * (28 * n)) body) ≡ at * (28 * n) = spelled-long n at front.ciphers (take (at * (28 * n)) body) front.spelled in
        subst (λ (r : ℕ). r < modulus_at k) (residue-front body (at * (28 * n)) k room7) (in-range n at front.ciphers (take (at * (28 * n)) body) front.spelled (k + 1) k (omega arith) (omega (arith, whole)))

    late : (k : ℕ) → 4 * n * at ≤ k → k < 4 * n * at + h.which → residue_at body k < modulus_at k
    late k v u =
        let j = k - 4 * n * at in
        let split : 4 * n * at + j ≡ k = omega arith in
        let start : at * (28 * n) ≡ 7 * (4 * n * at) = omega arith in
        let even : 4 * n * at % 2 ≡ 0 = omega arith in
        let size : (at + 1) * (28 * n) ≡ at * (28 * n) + 28 * n = omega arith in
        let long : length (take (28 * n) (drop (at * (28 * n)) body)) ≡ 28 * n = omega (arith, length-take (28 * n) (drop (at * (28 * n)) body), length-drop (at * (28 * n)) body) in
        let full : 7 * j + 7 ≤ 28 * n = omega (arith, h.is, h.within, long) in
        subst (λ (i : ℕ). residue_at body i < modulus_at i) split
        (subst (λ (r : ℕ). r < modulus_at (4 * n * at + j)) (residue-within body (28 * n) (at * (28 * n)) (4 * n * at) j start full)
        (subst (λ (m : ℕ). residue_at (take (28 * n) (drop (at * (28 * n)) body)) j < m) (sym (modulus-behind (4 * n * at) j even)) (h.before j (omega arith))))
