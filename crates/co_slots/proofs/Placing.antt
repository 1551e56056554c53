-- The slots among the values of a spectrum.
use Rattle.std.proofs.Common.{◌≡◌, ℕ, ◌+◌, ◌*◌, ◌-◌, ◌/◌, ◌<◌, ◌≤◌, ◌^◌, ◌≢◌, sym, ap, subst, ◌∙◌, ⊎_elim, arith, pos, ◌*ℤ◌, List, [], ◌∷◌, ◌++◌, length, get_or, set}
use Rattle.std.proofs.lemmas.Bool.{cases_eq}
use Rattle.std.proofs.lemmas.List.{length-set, get_or-set_other, get_or-set_same}
use Rattle.std.proofs.lemmas.Grind.{elements}
use Rattle.std.proofs.lemmas.Nat.{pow_pos, pow-add}
use Rattle.std.proofs.Math.Nat.{mul-div_cancel, pow-le-pow_right}
use lib.IntN.{neg_ℤ}
use Rattle.co_math.specs.Residues.{residue, Congruent}
use Rattle.co_math.specs.Powers.{power, root}
use Rattle.co_math.specs.Values.{value_at}
use Rattle.co_math.specs.Exponents.{bit_reversal}
use Rattle.co_math.specs.Coefficients.{coefficients, IsDegree}
use Rattle.co_math.specs.Parameters.{plain_modulus}
use Rattle.co_math.proofs.Residues.{cong-neg, residue-same}
use Rattle.co_math.proofs.Reduced.{residue_of}
use Rattle.co_math.proofs.Degrees.{degree_positive}
use Rattle.co_transform.proofs.Reversals.{bit_reversal-twice}
use Rattle.co_ring.specs.declared.moduli.Modulus.{Modulus}
use Rattle.co_ring.specs.declared.moduli.Modulus.TheVariants.{Plain}
use Rattle.co_ring.specs.Moduli.{value_of}
use Rattle.co_ring.specs.Spectra.{AreValues}
use Rattle.co_slots.specs.Slots.{exponent_of, slot, AreSlots, ArePlaces, AreScattered}
use Rattle.co_slots.proofs.Exponents.{exponent-second, exponent-lt, exponent-odd, exponents_differ}

pub opposite_exponent : (n p r s : ℕ) → 0 < n → n / 2 ≤ p → r ≡ residue (2 * n) (power (pos 3) (p - n / 2)) → s ≡ residue (2 * n) (neg_ℤ (pos r)) → s ≡ exponent_of n p
opposite_exponent n p r s z l e f =
    f ∙ residue-same (2 * n) (neg_ℤ (pos r)) (neg_ℤ (power (pos 3) (p - n / 2))) (omega arith) (cong-neg (2 * n) (residue_of (2 * n) r (power (pos 3) (p - n / 2)) (omega arith) e)) ∙ sym (exponent-second n p l)

-- plain_modulus - (plain_modulus - 1) / n is the inverse of a degree
pub degree-inverse : (n : ℕ) → IsDegree n → Congruent plain_modulus (pos (plain_modulus - (plain_modulus - 1) / n) *ℤ pos n) (pos 1)
degree-inverse n d =
    let x = 2 ^ (16 - d.exponent) in
    let whole : (plain_modulus - 1) ≡ x * n = ap (λ k. 2 ^ k) sixteen ∙ pow-add 2 (16 - d.exponent) d.exponent ∙ ap (λ k. x * k) (sym d.is) in
    let z = pow_pos d.exponent in
    let part : (plain_modulus - 1) / n ≡ x = ap (λ k. k / n) whole ∙ mul-div_cancel x (omega (arith, d.is, z)) in
    let least : x ≤ (plain_modulus - 1) = pow-le-pow_right {n = 2} (omega arith) least_exponent in
    let y = plain_modulus - x in
    let back : y + x ≡ plain_modulus = omega arith in
    record { times = pos (n - 1); same = ap (λ k. pos (plain_modulus - k) *ℤ pos n) part ∙ ap pos (counted x y n (omega (arith, d.is, z)) (sym whole) (ap (λ k. k * n) back)) }
  where
    sixteen : 16 ≡ 16 - d.exponent + d.exponent
    sixteen = omega (arith, d.most)

    least_exponent : 16 - d.exponent ≤ 16
    least_exponent = omega arith

    counted : (x y n : ℕ) → 0 < n → x * n ≡ (plain_modulus - 1) → (y + x) * n ≡ plain_modulus * n → y * n ≡ 1 + (n - 1) * plain_modulus
    counted x y n z e f = omega (arith, e, f)

half-odd : (n p : ℕ) → 0 < n → 2 * (exponent_of n p / 2) + 1 ≡ exponent_of n p
half-odd n p z = omega (arith, exponent-odd n p z)

pub half-lt : (n p : ℕ) → 0 < n → exponent_of n p / 2 < n
half-lt n p z = omega (arith, exponent-lt n p z)

halves_differ : (n j p : ℕ) → IsDegree n → j < n → p < n → j ≢ p → exponent_of n j / 2 ≢ exponent_of n p / 2
halves_differ n j p d a b ne e =
    let z = degree_positive n d in
    exponents_differ n j p d a b ne (sym (half-odd n j z) ∙ ap (λ k. 2 * k + 1) e ∙ half-odd n p z)

-- a place among the leaves, and the number of the value there
pub at_place : (n p at : ℕ) (d : IsDegree n) → at ≡ bit_reversal d.exponent (exponent_of n p / 2) → bit_reversal d.exponent at ≡ exponent_of n p / 2
at_place n p at d e = ap (bit_reversal d.exponent) e ∙ bit_reversal-twice d.exponent (exponent_of n p / 2) (omega (arith, half-lt n p (degree_positive n d), d.is))

-- the value at half of an exponent is the slot
pub slot_value_at : (n p : ℕ) (xs values : List ℕ) → 0 < n → length xs ≡ n → AreValues plain_modulus n (coefficients xs) values → get_or values (exponent_of n p / 2) 0 ≡ slot xs p
unfolding slot
slot_value_at n p xs values z len v =
    v.each (exponent_of n p / 2) (half-lt n p z)
    ∙ ap (λ e. residue plain_modulus (value_at n (coefficients xs) (power (pos (root plain_modulus n)) e))) (half-odd n p z)
    ∙ ap (λ k. residue plain_modulus (value_at k (coefficients xs) (power (pos (root plain_modulus k)) (exponent_of k p)))) (sym len)

-- values modulo a modulus that is t, of one degree
pub plain_values : (modulus : Modulus) (k n : ℕ) (xs values : List ℕ) → modulus ≡ Plain → k ≡ n → AreValues (value_of modulus) k (coefficients xs) values → AreValues plain_modulus n (coefficients xs) values
plain_values modulus k n xs values plain size v =
    subst (λ (k : ℕ). AreValues plain_modulus k (coefficients xs) values) size (subst (λ (m : Modulus). AreValues (value_of m) k (coefficients xs) values) plain v)

pub slots_of_values : (n : ℕ) (xs slots values : List ℕ) → 0 < n → length xs ≡ n → length slots ≡ n → AreValues plain_modulus n (coefficients xs) values → AreScattered n n slots values → AreSlots xs slots
slots_of_values n xs slots values z len count v s = record {
  len = count ∙ sym len;
  each = λ p u. sym (s.each p (omega (arith, u, len))) ∙ slot_value_at n p xs values z len v;
}

pub one_scattered : (n i at : ℕ) (slots old new : List ℕ) (d : IsDegree n) → i < n → at ≡ bit_reversal d.exponent (exponent_of n i / 2) → new ≡ set old (bit_reversal d.exponent at) (get_or slots i 0) → AreScattered n i slots old
    → AreScattered n (i + 1) slots new
one_scattered n i at slots old new d b e w s =
    let h = exponent_of n i / 2 in
    let v = get_or slots i 0 in
    let within = half-lt n i (degree_positive n d) in
    let is : new ≡ set old h v = w ∙ ap (λ k. set old k v) (at_place n i at d e) in
    record {
      len = ap length is ∙ length-set old h v ∙ s.len;
      each = λ p u.
          ap (λ xs. get_or xs (exponent_of n p / 2) 0) is
          ∙ ⊎_elim
          (λ f. ap (λ j. get_or (set old h v) (exponent_of n j / 2) 0) f ∙ get_or-set_same old h v 0 (omega (arith, within, s.len)) ∙ ap (λ j. get_or slots j 0) (sym f))
          (λ ne. get_or-set_other old h (exponent_of n p / 2) v 0 (halves_differ n p i d (omega arith) b ne) ∙ s.each p (omega (arith, u, ne)))
          (cases_eq p i);
    }

pub one_gathered : (n i x : ℕ) (old new values : List ℕ) → i < n → length old ≡ n → x ≡ get_or values (exponent_of n i / 2) 0 → new ≡ set old i x → AreScattered n i old values → AreScattered n (i + 1) new values
one_gathered n i x old new values b len e w s = record {
  len = s.len;
  each = λ p u.
      ⊎_elim
      (λ f. ap (λ j. get_or values (exponent_of n j / 2) 0) f ∙ sym e ∙ sym (get_or-set_same old i x 0 (omega (arith, b, len))) ∙ (λ t. get_or (sym w t) (sym f t) 0))
      (λ ne. s.each p (omega (arith, u, ne)) ∙ sym (get_or-set_other old i p x 0 ne) ∙ ap (λ xs. get_or xs p 0) (sym w))
      (cases_eq p i);
}

pub more_places : (n i x : ℕ) (xs : List ℕ) → ArePlaces n i xs → ((l : ℕ) → n ≡ 2 ^ l → x ≡ bit_reversal l (exponent_of n i / 2)) → ArePlaces n (i + 1) (xs ++ x ∷ [])
more_places n i x xs h e = record {
  len = grind (arith, elements);
  each = λ l p size u. ⊎_elim
      (λ f. last xs x p (f ∙ sym h.len) ∙ e l size ∙ ap (λ j. bit_reversal l (exponent_of n j / 2)) (sym f))
      (λ ne. front xs x p (omega (arith, u, ne, h.len)) ∙ h.each l p size (omega (arith, u, ne)))
      (cases_eq p i);
}
  where
    last : (xs : List ℕ) (x p : ℕ) → p ≡ length xs → get_or (xs ++ x ∷ []) p 0 ≡ x
    last xs x p e = grind (arith, elements)

    front : (xs : List ℕ) (x p : ℕ) → p < length xs → get_or (xs ++ x ∷ []) p 0 ≡ get_or xs p 0
    front xs x p l = grind (arith, elements)
