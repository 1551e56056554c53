-- Each diagonal has its polynomial.
use Rattle.std.proofs.Common.{◌≡◌, ℕ, suc, ◌+◌, ◌*◌, ◌/◌, ◌%◌, ◌^◌, ◌<◌, sym, subst, ◌∙◌, arith, Bool, true, false, cond, List, [], ◌∷◌, length, get_or, map, All}
use Rattle.std.specs.List.{range_with_len}
use Rattle.std.specs.Prelude.{◌==◌, ◌&&◌}
use Rattle.std.proofs.lemmas.List.FromFn.{length-map-range_with_len, get_or-map-range_with_len}
use Rattle.co_math.specs.Parameters.{plain_modulus}
use Rattle.co_math.specs.Coefficients.{AreBelow, IsDegree}
use Rattle.co_slots.proofs.Interpolated.{has_polynomial}
use Rattle.co_matvec.specs.Weights.{WeightMatrix, weight_of, diagonal_slot}
use Rattle.co_matvec.specs.Replies.{HasSlots, AreDiagonals}

-- a polynomial with given slots
has_slots : (n : ℕ) (slots : ℕ → ℕ) → IsDegree n → ((p : ℕ) → p < n → slots p < plain_modulus) → (xs : List ℕ) × HasSlots n slots xs
has_slots n slots d small =
    let values : List ℕ = map slots (range_with_len 0 n) in
    let long : length values ≡ n = length-map-range_with_len slots 0 n in
    let at : (p : ℕ) → p < n → get_or values p 0 ≡ slots p = λ p l. get_or-map-range_with_len slots 0 n p p 0 l (omega arith) in
    let below : AreBelow plain_modulus values = λ p l. let u = subst (λ (m : ℕ). p < m) long l in subst (λ (x : ℕ). x < plain_modulus) (sym (at p u)) (small p u) in
    let s = has_polynomial values (subst IsDegree (sym long) d) below in
    let len : length s.coeffs ≡ n = sym s.slots_are.len ∙ long in (
      s.coeffs,
      record { len = len; reduced = s.reduced; each = λ p l. sym (s.slots_are.each p (subst (λ (m : ℕ). p < m) (sym len) l)) ∙ at p l },
    )

chosen-small : (b : Bool) (x y m : ℕ) → x < m → y < m → cond b x y < m
chosen-small true x y m l u = l
chosen-small false x y m l u = u

weight-small : (es : List (ℕ × ℕ × ℕ)) (term document : ℕ) → All (λ e. e.2 < 2 ^ 16) es → weight_of es term document < 2 ^ 16
weight-small [] term document all = omega arith
weight-small (e ∷ es) term document all =
    chosen-small (e.0 == term && e.1 == document) e.2 (weight_of es term document) (2 ^ 16) (all 0 e (omega arith)) (weight-small es term document (λ k d l. all (suc k) d (omega arith)))

pub diagonals_are : (w : WeightMatrix) → IsDegree w.degree → All (λ e. e.2 < 2 ^ 16) w.entries → (a : ℕ) → (diagonal : ℕ → ℕ → List ℕ) × AreDiagonals w a diagonal
unfolding diagonal_slot
diagonals_are w d small a =
    let one : (k i : ℕ) → (xs : List ℕ) × HasSlots w.degree (diagonal_slot w a k i) xs = λ k i. has_slots w.degree (diagonal_slot w a k i) d
    (λ p l. let s = weight-small w.entries (k * (w.degree / 2) + (p % (w.degree / 2) + i) % (w.degree / 2)) (a * w.degree + p) small in omega arith) in
    ((λ k i. (one k i).0), record { each = λ k i l u. (one k i).1 })
