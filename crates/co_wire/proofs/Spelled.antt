-- Residues, coefficients and polynomials as bytes.
use Rattle.std.proofs.Common.{◌≡◌, ℕ, zero, suc, ◌+◌, ◌-◌, ◌*◌, ◌%◌, ◌<◌, ◌≤◌, refl, sym, ap, subst, ◌∙◌, ⊎_elim, arith, List, [], ◌∷◌, ◌++◌, length, get_or, take, drop, append_assoc}
use Rattle.std.specs.List.{flat_map}
use Rattle.std.specs.Int.{w64, from_le_bytes}
use Rattle.std.proofs.lemmas.Nat.{le_bytes_8}
use Rattle.std.proofs.lemmas.List.{append-nil, take_at, take_more, take_all, flat_map_more, drop-drop, get_or_append_left, get_or-append_right, length-append, length-take, length-drop, get_or-take, get_or-drop, get_or_past}
use Rattle.std.proofs.Math.Seq.{take-add}
use Rattle.std.proofs.lemmas.Bool.{cases_lt}
use Rattle.co_math.specs.Parameters.{first_modulus, second_modulus}
use Rattle.co_wire.specs.Bodies.{residue_bytes, coefficient_bytes, polynomial_bytes, residue_at}
use Rattle.co_wire.specs.Parts.{SpellsBetween}

-- one coefficient more
pub polynomial-more : (xs before after : List ℕ) (k : ℕ) → k < length xs → after ≡ before ++ polynomial_bytes (take k xs) → (last : List ℕ) → last ≡ after ++ coefficient_bytes (get_or xs k 0) → last ≡ before ++ polynomial_bytes (take (k + 1) xs)
unfolding polynomial_bytes
polynomial-more xs before after k l e last f =
    f ∙ ap (λ (ys : List ℕ). ys ++ coefficient_bytes (get_or xs k 0)) e ∙ flat_map_more coefficient_bytes before (take k xs) (get_or xs k 0)
    ∙ ap (λ (ys : List ℕ). before ++ flat_map coefficient_bytes ys) (sym (take_more xs k 0 l))

-- two residues are a coefficient
pub coefficient-put : (out mid last : List ℕ) (r s x : ℕ) → mid ≡ out ++ residue_bytes r → last ≡ mid ++ residue_bytes s → r ≡ x % first_modulus → s ≡ x % second_modulus → last ≡ out ++ coefficient_bytes x
coefficient-put out mid last r s x e f a b =
    f ∙ ap (λ (ys : List ℕ). ys ++ residue_bytes s) e ∙ append_assoc out (residue_bytes r) (residue_bytes s) ∙ (λ t. out ++ (residue_bytes (a t) ++ residue_bytes (b t)))

-- ---- what is read is spelled so

byte-or-zero : (bs : List ℕ) → ((i : ℕ) → get_or bs i 0 < 256) → (i : ℕ) → get_or (bs ++ 0 ∷ []) i 0 < 256
byte-or-zero bs h i = ⊎_elim
    (λ u. subst (λ (x : ℕ). x < 256) (sym (get_or_append_left bs (0 ∷ []) 0 i u)) (h i))
    (λ u. subst (λ (x : ℕ). x < 256) (sym (get_or-append_right bs (0 ∷ []) (length bs) i 0 refl u)) (zero_or_past (i - length bs)))
    (cases_lt i (length bs))
  where
    zero_or_past : (k : ℕ) → get_or (0 ∷ []) k 0 < 256
    zero_or_past zero = omega arith
    zero_or_past (suc k) = omega arith

-- the bytes of the residue that seven bytes are, are these
pub residue-back : (body : List ℕ) (i : ℕ) → ((k : ℕ) → get_or body k 0 < 256) → 7 * i + 7 ≤ length body → residue_bytes (residue_at body i) ≡ take 7 (drop (7 * i) body)
unfolding residue_bytes residue_at
residue-back body i bytes room =
    let bs = take 7 (drop (7 * i) body) in
    let len : length bs ≡ 7 = omega (arith, length-take 7 (drop (7 * i) body), length-drop (7 * i) body) in
    let long : length (bs ++ 0 ∷ []) ≡ 8 = omega (arith, length-append bs (0 ∷ []), len) in
    ap (take 7) (le_bytes_8 (bs ++ 0 ∷ []) (from_le_bytes w64 (bs ++ 0 ∷ [])) long (byte-or-zero bs each) refl) ∙ take_at bs (0 ∷ []) 7 len
  where
    each : (k : ℕ) → get_or (take 7 (drop (7 * i) body)) k 0 < 256
    each k = ⊎_elim
        (λ u. subst (λ (x : ℕ). x < 256) (sym (get_or-take 7 (drop (7 * i) body) k 0 u ∙ get_or-drop (7 * i) body k 0)) (bytes (7 * i + k)))
        (λ u. subst (λ (x : ℕ). x < 256) (sym (get_or_past (take 7 (drop (7 * i) body)) k 0 (omega (arith, length-take 7 (drop (7 * i) body))))) (omega arith))
        (cases_lt k 7)

module _ (n from : ℕ) (body xs : List ℕ) (bytes : (k : ℕ) → get_or body k 0 < 256) (room : 7 * (from + 2 * n) ≤ length body) (long : length xs ≡ n)
    (firsts : (k : ℕ) → k < n → get_or xs k 0 % first_modulus ≡ residue_at body (from + 2 * k)) (seconds : (k : ℕ) → k < n → get_or xs k 0 % second_modulus ≡ residue_at body (from + 2 * k + 1)) where
  one : (k : ℕ) → k < n → coefficient_bytes (get_or xs k 0) ≡ take 14 (drop (7 * (from + 2 * k)) body)
  one k l =
      let odd : 7 * (from + 2 * k + 1) ≡ 7 * (from + 2 * k) + 7 = omega arith in
      (λ t. residue_bytes (firsts k l t) ++ residue_bytes (seconds k l t))
      ∙ (λ t. residue-back body (from + 2 * k) bytes (omega (arith, room)) t ++ residue-back body (from + 2 * k + 1) bytes (omega (arith, room)) t)
      ∙ ap (λ (m : ℕ). take 7 (drop (7 * (from + 2 * k)) body) ++ take 7 (drop m body)) odd
      ∙ ap (λ (ys : List ℕ). take 7 (drop (7 * (from + 2 * k)) body) ++ take 7 ys) (sym (drop-drop 7 (7 * (from + 2 * k)) body))
      ∙ sym (take-add 7 7 (drop (7 * (from + 2 * k)) body))

  front : (k : ℕ) → k ≤ n → take (7 * (from + 2 * k)) body ≡ take (7 * from) body ++ flat_map coefficient_bytes (take k xs)
  front zero l = let none : 7 * (from + 2 * 0) ≡ 7 * from = omega arith in ap (λ (m : ℕ). take m body) none ∙ sym (append-nil (take (7 * from) body))
  front (suc k) l =
      let next : suc k ≡ k + 1 = omega arith in
      let size : 7 * (from + 2 * suc k) ≡ 7 * (from + 2 * k) + 14 = omega arith in
      ap (λ (m : ℕ). take m body) size ∙ take-add (7 * (from + 2 * k)) 14 body
      ∙ (λ t. front k (omega arith) t ++ sym (one k (omega arith)) t)
      ∙ flat_map_more coefficient_bytes (take (7 * from) body) (take k xs) (get_or xs k 0)
      ∙ ap (λ (ys : List ℕ). take (7 * from) body ++ flat_map coefficient_bytes ys) (sym (take_more xs k 0 (omega (arith, long))) ∙ ap (λ (m : ℕ). take m xs) (sym next))

  pub polynomial-spelled : SpellsBetween from (from + 2 * n) (polynomial_bytes xs) body
  unfolding polynomial_bytes
  polynomial-spelled = front n (omega arith) ∙ ap (λ (ys : List ℕ). take (7 * from) body ++ flat_map coefficient_bytes ys) (take_all n xs (omega (arith, long)))
