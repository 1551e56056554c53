-- Numbers composed of two residues.
use Rattle.std.proofs.Common.{◌≡◌, ℕ, zero, suc, ◌+◌, ◌*◌, ◌<◌, refl, sym, ap, subst, ◌∙◌, arith, ℤ, pos, ◌+ℤ◌, ◌-ℤ◌, ◌*ℤ◌, List, [], ◌∷◌, length, get_or}
use Rattle.co_math.specs.Residues.{residue, Congruent}
use Rattle.co_math.specs.Coefficients.{AreResidues}
use Rattle.co_math.proofs.Integers.{linear, expand, mul-one}
use Rattle.co_math.proofs.Residues.{cong-refl, cong_from, cong-trans, cong-add, cong-mul, residue-is, residue-lt, residue-same}
use Rattle.co_math.proofs.Residue_pairs.{cong-both, inverse}
use Rattle.co_math.proofs.Reduced.{reduced_as, residue_of}
use Rattle.co_rns.specs.Residue_pairs.{q, composed, all_composed}
use Rattle.co_math.specs.Parameters.{first_modulus, inverse_of_first, q, second_modulus}

pub both : {x y : ℤ} → Congruent first_modulus x y → Congruent second_modulus x y → Congruent q x y
both c d = cong-both first_modulus second_modulus (pos inverse_of_first) inverse c d

pub composed-first : (a b : ℕ) → Congruent first_modulus (pos (composed a b)) (pos a)
unfolding composed
composed-first a b = let d = residue second_modulus ((pos b -ℤ pos a) *ℤ pos inverse_of_first) in record { times = pos d; same = ap pos (turn a d) }
  where
    turn : (a d : ℕ) → a + first_modulus * d ≡ a + d * first_modulus
    turn a d = omega arith

pub composed-second : (a b : ℕ) → Congruent second_modulus (pos (composed a b)) (pos b)
unfolding composed
composed-second a b =
    let m : ℕ = second_modulus in
    let z = (pos b -ℤ pos a) *ℤ pos inverse_of_first in
    let d = residue m z in
    let i : Congruent m (pos first_modulus *ℤ pos d) (pos b -ℤ pos a) =
    cong-trans m (cong-mul m (cong-refl m (pos first_modulus)) (residue-is m z (omega arith)))
    (cong-trans m (cong_from m (turn (pos first_modulus) (pos b -ℤ pos a) (pos inverse_of_first)))
    (cong-trans m (cong-mul m (cong-refl m (pos b -ℤ pos a)) inverse) (cong_from m (mul-one (pos b -ℤ pos a))))) in
    cong-trans m (cong-add m (cong-refl m (pos a)) i) (cong_from m (back (pos a) (pos b)))
  where
    turn : (a z u : ℤ) → a *ℤ (z *ℤ u) ≡ z *ℤ (a *ℤ u)
    turn a z u = simp expand

    back : (a b : ℤ) → a +ℤ (b -ℤ a) ≡ b
    back a b = omega (arith, linear)

pub composed-below : (a b : ℕ) → a < first_modulus → composed a b < q
unfolding composed
composed-below a b l =
    let d = residue second_modulus ((pos b -ℤ pos a) *ℤ pos inverse_of_first) in
    let u : d < second_modulus = residue-lt second_modulus ((pos b -ℤ pos a) *ℤ pos inverse_of_first) (omega arith) in
    fits a d l u
  where
    fits : (a d : ℕ) → a < first_modulus → d < second_modulus → a + first_modulus * d < q
    fits a d l u = omega arith

pub composed-residues : (z : ℤ) (a b : ℕ) → a ≡ residue first_modulus z → b ≡ residue second_modulus z → composed a b ≡ residue q z
composed-residues z a b e f =
    reduced_as q (composed a b) z (composed-below a b (subst (λ (k : ℕ). k < first_modulus) (sym e) (residue-lt first_modulus z (omega arith))))
    (both (cong-trans first_modulus (composed-first a b) (residue_of first_modulus a z (omega arith) e)) (cong-trans second_modulus (composed-second a b) (residue_of second_modulus b z (omega arith) f)))

pub length-all_composed : (xs ys : List ℕ) → length ys ≡ length xs → length (all_composed xs ys) ≡ length xs
length-all_composed [] ys e = refl
length-all_composed (x ∷ xs) [] e = absurd (omega arith)
length-all_composed (x ∷ xs) (y ∷ ys) e = ap suc (length-all_composed xs ys (omega arith))

pub get_or-all_composed : (xs ys : List ℕ) (k : ℕ) → length ys ≡ length xs → k < length xs → get_or (all_composed xs ys) k 0 ≡ composed (get_or xs k 0) (get_or ys k 0)
get_or-all_composed [] ys k e l = absurd (omega arith)
get_or-all_composed (x ∷ xs) [] k e l = absurd (omega arith)
get_or-all_composed (x ∷ xs) (y ∷ ys) zero e l = refl
get_or-all_composed (x ∷ xs) (y ∷ ys) (suc k) e l = get_or-all_composed xs ys k (omega arith) (omega arith)

-- residues modulo both moduli are residues modulo q
pub all_composed_are : (n : ℕ) (f : ℤ → ℤ) (xs ys : List ℕ) → AreResidues first_modulus n f xs → AreResidues second_modulus n f ys → AreResidues q n f (all_composed xs ys)
all_composed_are n f xs ys h i =
    let e : length ys ≡ length xs = omega (arith, h.len, i.len) in
    record {
      len = length-all_composed xs ys e ∙ h.len;
      each = λ k l. get_or-all_composed xs ys k e (omega (arith, h.len)) ∙ composed-residues (f (pos k)) (get_or xs k 0) (get_or ys k 0) (h.each k l) (i.each k l);
    }

pub composed_by : (a b s d : ℕ) → s ≡ residue second_modulus (pos b -ℤ pos a) → d ≡ residue second_modulus (pos s *ℤ pos inverse_of_first) → a + first_modulus * d ≡ composed a b
unfolding composed
composed_by a b s d e f =
    let m : ℕ = second_modulus in
    ap (λ k. a + first_modulus * k) (f ∙ residue-same m (pos s *ℤ pos inverse_of_first) ((pos b -ℤ pos a) *ℤ pos inverse_of_first) (omega arith)
    (cong-mul m (residue_of m s (pos b -ℤ pos a) (omega arith) e) (cong-refl m (pos inverse_of_first))))
