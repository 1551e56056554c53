-- Each list of keywords has its messages.
use Rattle.std.proofs.Common.{◌≡◌, ℕ, ◌<◌, Bool, true, false, cond, sym, subst, ◌∙◌, arith, List, [], length, get_or, map}
use Rattle.std.specs.List.{range_with_len}
use Rattle.std.proofs.lemmas.List.FromFn.{length-map-range_with_len, get_or-map-range_with_len}
use Rattle.co_math.specs.Parameters.{plain_modulus}
use Rattle.co_math.specs.Coefficients.{AreBelow, IsDegree}
use Rattle.co_noise.specs.Shapes.{Numbers, keyword_blocks}
use Rattle.co_slots.proofs.Interpolated.{has_polynomial}
use Rattle.co_matvec.specs.Weights.{keyword_slot}
use Rattle.co_matvec.specs.Replies.{HasSlots}
use Rattle.co_rounds.specs.Asked.{AreKeywordMessages}

record WithSlots (n : ℕ) (slots : ℕ → ℕ) : Type 0 where
  pub coeffs : List ℕ
  pub spelled : HasSlots n slots coeffs

with-slots : (n : ℕ) (slots : ℕ → ℕ) → IsDegree n → ((p : ℕ) → p < n → slots p < plain_modulus) → WithSlots n slots
with-slots n slots d small =
    let values : List ℕ = map slots (range_with_len 0 n) in
    let long : length values ≡ n = length-map-range_with_len slots 0 n in
    let at : (p : ℕ) → p < n → get_or values p 0 ≡ slots p = λ p l. get_or-map-range_with_len slots 0 n p p 0 l (omega arith) in
    let below : AreBelow plain_modulus values = λ p l. let u = subst (λ (m : ℕ). p < m) long l in subst (λ (x : ℕ). x < plain_modulus) (sym (at p u)) (small p u) in
    let s = has_polynomial values (subst IsDegree (sym long) d) below in
    let len : length s.coeffs ≡ n = sym s.slots_are.len ∙ long in
    record {
      coeffs = s.coeffs;
      spelled = record { len = len; reduced = s.reduced; each = λ p l. sym (s.slots_are.each p (subst (λ (m : ℕ). p < m) (sym len) l)) ∙ at p l };
    }

bit-small : (b : Bool) → cond b 1 0 < plain_modulus
bit-small true = omega arith
bit-small false = omega arith

slot-small : (n : ℕ) (keywords : List ℕ) (k p : ℕ) → keyword_slot n keywords k p < plain_modulus
unfolding keyword_slot
slot-small n keywords k p = bit-small _

pub record HasMessages (s : Numbers) (keywords : List ℕ) : Type 0 where
  pub messages : List (List ℕ)
  pub are : AreKeywordMessages s keywords messages

pub has-messages : (s : Numbers) (keywords : List ℕ) → IsDegree s.degree → HasMessages s keywords
has-messages s keywords d =
    let n = s.degree in
    let one : (k : ℕ) → WithSlots n (keyword_slot n keywords k) = λ k. with-slots n (keyword_slot n keywords k) d (λ p l. slot-small n keywords k p) in
    let f : ℕ → List ℕ = λ k. (one k).coeffs in
    let count = length-map-range_with_len f 0 (keyword_blocks s) in
    record {
      messages = map f (range_with_len 0 (keyword_blocks s));
      are = record {
        count = count;
        each = λ k l. subst (λ (xs : List ℕ). HasSlots n (keyword_slot n keywords k) xs) (sym (get_or-map-range_with_len f 0 (keyword_blocks s) k k [] (omega (arith, count)) (omega arith))) (one k).spelled;
      };
    }
