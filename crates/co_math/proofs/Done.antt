-- Loops that fill a list place by place.
use Rattle.std.proofs.Common.{◌≡◌, ℕ, ◌+◌, ◌*◌, ◌-◌, ◌<◌, ◌≤◌, refl, sym, ap, subst, ◌∙◌, arith, ℤ, pos, ◌+ℤ◌, ◌-ℤ◌, ◌*ℤ◌, List, length, get_or, set, replicate}
use Rattle.std.proofs.lemmas.Grind.{elements}
use Rattle.std.proofs.lemmas.List.{get_or-replicate, length-replicate}
use lib.IntN.{neg_ℤ}
use Rattle.co_math.specs.Residues.{residue}
use Rattle.co_math.specs.Polynomials.{plus, minus, scaled, shifted}
use Rattle.co_math.specs.Coefficients.{coefficients, AreBelow, AreResidues}
use Rattle.co_math.proofs.Integers.{linear}
use Rattle.co_math.proofs.Reduced.{reduced_as}
use Rattle.co_math.proofs.Residues.{residue-lt, residue_small, cong-refl}
use Rattle.co_math.proofs.Terms.{coefficient-low}
use Rattle.co_math.proofs.Places.{coefficients-IsWrapped, coefficient-congruent}

-- the first i places of xs have the residues of f, and the others those of the beginning
pub record AreDone (m i : ℕ) (f : ℤ → ℤ) (old new : List ℕ) : Type 0 where
  pub len : length new ≡ length old
  pub done : (k : ℕ) → k < i → get_or new k 0 ≡ residue m (f (pos k))
  pub rest : (k : ℕ) → i ≤ k → get_or new k 0 ≡ get_or old k 0

pub one_done : (m i x : ℕ) (f : ℤ → ℤ) (old new : List ℕ) → AreDone m i f old new → i < length new → x ≡ residue m (f (pos i)) → AreDone m (i + 1) f old (set new i x)
one_done m i x f old new h l e = record { len = grind (arith, elements); done = grind (arith, elements); rest = grind (arith, elements) }

pub plus_done : (m i x : ℕ) (old new other : List ℕ) → AreDone m i (plus (coefficients old) (coefficients other)) old new → length other ≡ length old → i < length new
    → x ≡ residue m (pos (get_or new i 0) +ℤ pos (get_or other i 0)) → AreDone m (i + 1) (plus (coefficients old) (coefficients other)) old (set new i x)
unfolding plus
plus_done m i x old new other h l u e =
    one_done m i x (plus (coefficients old) (coefficients other)) old new h u
    (e ∙ ap (residue m) (λ t. (ap pos (h.rest i (omega arith)) ∙ sym (coefficient-low old i (omega (arith, h.len)))) t +ℤ sym (coefficient-low other i (omega (arith, h.len))) t))

pub minus_done : (m i x : ℕ) (old new other : List ℕ) → AreDone m i (minus (coefficients old) (coefficients other)) old new → length other ≡ length old → i < length new
    → x ≡ residue m (pos (get_or new i 0) -ℤ pos (get_or other i 0)) → AreDone m (i + 1) (minus (coefficients old) (coefficients other)) old (set new i x)
unfolding minus
minus_done m i x old new other h l u e =
    one_done m i x (minus (coefficients old) (coefficients other)) old new h u
    (e ∙ ap (residue m) (λ t. (ap pos (h.rest i (omega arith)) ∙ sym (coefficient-low old i (omega (arith, h.len)))) t -ℤ sym (coefficient-low other i (omega (arith, h.len))) t))

pub scaled_done : (m i x c : ℕ) (old new : List ℕ) → AreDone m i (scaled (pos c) (coefficients old)) old new → i < length new
    → x ≡ residue m (pos c *ℤ pos (get_or new i 0)) → AreDone m (i + 1) (scaled (pos c) (coefficients old)) old (set new i x)
unfolding scaled
scaled_done m i x c old new h u e =
    one_done m i x (scaled (pos c) (coefficients old)) old new h u
    (e ∙ ap (λ t. residue m (pos c *ℤ t)) (ap pos (h.rest i (omega arith)) ∙ sym (coefficient-low old i (omega (arith, h.len)))))

-- reads at a place in the first or the second half turn
pub read_low : (m place : ℕ) (xs : List ℕ) → place < length xs → get_or xs place 0 < m → get_or xs place 0 ≡ residue m (coefficients xs (pos place))
read_low m place xs l b = sym (ap (residue m) (coefficient-low xs place l) ∙ residue_small m (get_or xs place 0) b)

pub read_high : (m place x : ℕ) (xs : List ℕ) → length xs ≤ place → place < 2 * length xs → x ≡ residue m (neg_ℤ (pos (get_or xs (place - length xs) 0))) → x ≡ residue m (coefficients xs (pos place))
read_high m place x xs l u e =
    let over : pos place ≡ pos (place - length xs) +ℤ pos (length xs) = omega (arith, linear) in
    e ∙ ap (residue m) (sym (ap (coefficients xs) over ∙ coefficients-IsWrapped xs (omega arith) (pos (place - length xs)) ∙ ap neg_ℤ (coefficient-low xs (place - length xs) (omega arith))))

-- the place of k - e, up to whole turns
pub from_before : (m k e place x : ℕ) (xs : List ℕ) → 0 < length xs → e ≤ k → place ≡ k - e → x ≡ residue m (coefficients xs (pos place)) → x ≡ residue m (shifted e (coefficients xs) (pos k))
unfolding shifted
from_before m k e place x xs z l p h = h ∙ ap (λ t. residue m (coefficients xs t)) (omega (arith, linear))

pub from_around : (m k e place x : ℕ) (xs : List ℕ) → 0 < length xs → k < e → e < 2 * length xs → place ≡ k + 2 * length xs - e → x ≡ residue m (coefficients xs (pos place)) → x ≡ residue m (shifted e (coefficients xs) (pos k))
unfolding shifted
from_around m k e place x xs z l u p h =
    h ∙ ap (residue m) (sym (coefficient-congruent xs (pos k -ℤ pos e) place z (record { times = neg_ℤ (pos 1); same = omega (arith, linear) })))

pub zeros : (m n : ℕ) → 0 < m → AreResidues m n (λ k. pos 0) (replicate n 0)
zeros m n p = record { len = length-replicate n 0; each = λ k l. get_or-replicate n k 0 0 l ∙ reduced_as m 0 (pos 0) p (cong-refl m (pos 0)) }

-- coefficients that are below m are their own residues
pub own_residues : (m : ℕ) (xs : List ℕ) → AreBelow m xs → AreResidues m (length xs) (coefficients xs) xs
own_residues m xs b = record { len = refl; each = λ k l. read_low m k xs l (b k l) }

pub residues_below : (m n : ℕ) (f : ℤ → ℤ) (xs : List ℕ) → 0 < m → AreResidues m n f xs → AreBelow m xs
residues_below m n f xs p h k l = subst (λ (v : ℕ). v < m) (sym (h.each k (omega (arith, h.len)))) (residue-lt m (f (pos k)) p)

-- the first i places of a list of n have the values of f
pub record AreFilled (n i : ℕ) (f : ℕ → ℕ) (xs : List ℕ) : Type 0 where
  pub len : length xs ≡ n
  pub done : (k : ℕ) → k < i → get_or xs k 0 ≡ f k
