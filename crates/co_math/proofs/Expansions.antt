-- What the ciphertexts of an expansion mean.
use Rattle.std.proofs.Common.{◌≡◌, ℕ, ◌+◌, ◌*◌, ◌-◌, ◌<◌, ◌≤◌, sym, ap, ◌∙◌, ⊎_elim, arith, ℤ, pos, ◌+ℤ◌, ◌*ℤ◌}
use Rattle.std.proofs.lemmas.Bool.{cases_lt, cases_eq}
use lib.IntN.{neg_ℤ}
use Rattle.co_math.specs.Residues.{residue, Congruent}
use Rattle.co_math.specs.Polynomials.{IsWrapped}
use Rattle.co_math.specs.Expansions.{evens}
use Rattle.co_math.proofs.Integers.{linear, expand, mul_assoc, one-mul, mul-add}
use Rattle.co_math.proofs.Residues.{cong-trans, cong-sym, cong-mul, cong-refl, cong_from, residue-is, residue-lt, residue-same, residue_small}
use Rattle.co_math.proofs.Flips.{flip-even, flip-odd}

-- a is s * p(s v + k) at the multiples s v of s, and 0 elsewhere
pub record IsSpread (s k : ℕ) (p a : ℤ → ℤ) : Type 0 where
  pub at : (v : ℤ) → a (pos s *ℤ v) ≡ pos s *ℤ p (pos s *ℤ v +ℤ pos k)
  pub none : (v : ℤ) (r : ℕ) → 0 < r → r < s → a (pos s *ℤ v +ℤ pos r) ≡ pos 0

-- a number that leaves r when divided by s, times the inverse of g, leaves no 0
module _ (n s m : ℕ) (h : ℤ) (z : 0 < s) (e : n ≡ s * m) (inverse : Congruent (n + n) (h *ℤ (pos m +ℤ pos 1)) (pos 1)) where
  narrow : {a b : ℤ} → Congruent (n + n) a b → Congruent s a b
  narrow {a} {b} c = record { times = c.times *ℤ pos (m + m); same = c.same ∙ ap (λ t. b +ℤ t) (ap (λ k. c.times *ℤ pos k) (omega (arith, e)) ∙ shape c.times) }
    where
      shape : (t : ℤ) → t *ℤ pos ((m + m) * s) ≡ t *ℤ pos (m + m) *ℤ pos s
      shape t = sym (mul_assoc t (pos (m + m)) (pos s))

  stays : (i : ℤ) → 0 < residue s i → 0 < residue s (h *ℤ i)
  stays i l = ⊎_elim (λ u. u)
      (λ u.
      let zero_there : residue s (h *ℤ i) ≡ 0 = omega arith in
      let c : Congruent s (h *ℤ i) (pos 0) = cong-trans s (cong-sym s (residue-is s (h *ℤ i) z)) (cong_from s (ap pos zero_there)) in
      let d : Congruent s i (pos 0) = cong-trans s (cong-sym s (cong-trans s (cong-mul s (narrow inverse) (cong-refl s i)) (cong_from s (one-mul i))))
      (cong-trans s (cong_from s (turn h (pos m +ℤ pos 1) i)) (cong-trans s (cong-mul s (cong-refl s (pos m +ℤ pos 1)) c) (cong_from s (none_times (pos m +ℤ pos 1))))) in
      let f : residue s i ≡ 0 = residue-same s i (pos 0) z d ∙ residue_small s 0 z in
      absurd (omega arith))
      (cases_lt 0 (residue s (h *ℤ i)))
    where
      turn : (h g i : ℤ) → h *ℤ g *ℤ i ≡ g *ℤ (h *ℤ i)
      turn h g i = simp expand

      none_times : (g : ℤ) → g *ℤ pos 0 ≡ pos 0
      none_times g = simp expand

  -- where a is 0, it is 0 after the substitution
  vanishes : (k : ℕ) (p a : ℤ → ℤ) → IsSpread s k p a → (v : ℤ) (r : ℕ) → 0 < r → r < s → a (h *ℤ (pos s *ℤ v +ℤ pos r)) ≡ pos 0
  vanishes k p a f v r l u =
      let i = pos s *ℤ v +ℤ pos r in
      let q : residue s i ≡ r = residue-same s i (pos r) z (record { times = v; same = swap v }) ∙ residue_small s r u in
      let c = residue-is s (h *ℤ i) z in
      let t = cong-sym s c in
      let place : h *ℤ i ≡ pos s *ℤ t.times +ℤ pos (residue s (h *ℤ i)) = t.same ∙ swap_back t.times (residue s (h *ℤ i)) in
      ap a place ∙ f.none t.times (residue s (h *ℤ i)) (stays i (omega arith)) (residue-lt s (h *ℤ i) z)
    where
      swap : (v : ℤ) → pos s *ℤ v +ℤ pos r ≡ pos r +ℤ v *ℤ pos s
      swap v = simp expand (omega (arith, linear))

      swap_back : (v : ℤ) (x : ℕ) → pos x +ℤ v *ℤ pos s ≡ pos s *ℤ v +ℤ pos x
      swap_back v x = simp expand (omega (arith, linear))

twice_at : (s : ℕ) (v : ℤ) → pos (2 * s) *ℤ v ≡ pos s *ℤ (v +ℤ v)
twice_at s v = ap (λ k. pos k *ℤ v) (omega arith) ∙ shape s v
  where
    shape : (s : ℕ) (v : ℤ) → pos (s + s) *ℤ v ≡ pos s *ℤ (v +ℤ v)
    shape s v = omega (arith, linear, mul-add (pos s) v v)

module _ (n s m k : ℕ) (h u : ℤ) (p a : ℤ → ℤ) (z : 0 < s) (w : IsWrapped n a) (e : n ≡ s * m) (inverse : Congruent (n + n) (h *ℤ (pos m +ℤ pos 1)) (pos 1)) (odd : h ≡ u +ℤ u +ℤ pos 1) (f : IsSpread s k p a) where
  pub evens-IsSpread : IsSpread (2 * s) k p (evens h a)
  unfolding evens
  evens-IsSpread = record {
    at = λ v.
        let i = pos s *ℤ (v +ℤ v) in
        let t = twice_at s v in
        ap (λ y. a y +ℤ a (h *ℤ y)) t ∙ ap (λ y. a i +ℤ y) (flip-even n s m h u a w e inverse odd v) ∙ ap (λ y. y +ℤ y) (f.at (v +ℤ v))
        ∙ double s (p (i +ℤ pos k)) ∙ ap (λ y. pos (2 * s) *ℤ p (y +ℤ pos k)) (sym t);
    none = λ v r l b. ⊎_elim
        (λ g.  -- the odd multiples
        let t : pos (2 * s) *ℤ v +ℤ pos r ≡ pos s *ℤ (v +ℤ v +ℤ pos 1) = ap (λ y. y +ℤ pos r) (twice_at s v) ∙ ap (λ y. pos s *ℤ (v +ℤ v) +ℤ pos y) g ∙ next s (v +ℤ v) in
        ap (λ y. a y +ℤ a (h *ℤ y)) t ∙ ap (λ y. a (pos s *ℤ (v +ℤ v +ℤ pos 1)) +ℤ y) (flip-odd n s m h u a w e inverse odd v) ∙ opposite (a (pos s *ℤ (v +ℤ v +ℤ pos 1))))
        (λ ne. ⊎_elim
        (λ q.
        let t : pos (2 * s) *ℤ v +ℤ pos r ≡ pos s *ℤ (v +ℤ v) +ℤ pos r = ap (λ y. y +ℤ pos r) (twice_at s v) in
        ap (λ y. a y +ℤ a (h *ℤ y)) t ∙ (λ j. f.none (v +ℤ v) r l q j +ℤ vanishes n s m h z e inverse k p a f (v +ℤ v) r l q j))
        (λ q.
        let t : pos (2 * s) *ℤ v +ℤ pos r ≡ pos s *ℤ (v +ℤ v +ℤ pos 1) +ℤ pos (r - s) = ap (λ y. y +ℤ pos r) (twice_at s v) ∙ later s (v +ℤ v) r q in
        ap (λ y. a y +ℤ a (h *ℤ y)) t ∙ (λ j. f.none (v +ℤ v +ℤ pos 1) (r - s) (omega arith) (omega arith) j +ℤ vanishes n s m h z e inverse k p a f (v +ℤ v +ℤ pos 1) (r - s) (omega arith) (omega arith) j))
        (cases_lt r s))
        (cases_eq r s);
  }
    where
      double : (s : ℕ) (y : ℤ) → pos s *ℤ y +ℤ pos s *ℤ y ≡ pos (2 * s) *ℤ y
      double s y = omega (arith, linear)

      next : (s : ℕ) (v : ℤ) → pos s *ℤ v +ℤ pos s ≡ pos s *ℤ (v +ℤ pos 1)
      next s v = omega (arith, linear, mul-add (pos s) v (pos 1))

      opposite : (y : ℤ) → y +ℤ neg_ℤ y ≡ pos 0
      opposite y = omega (arith, linear)

      later : (s : ℕ) (v : ℤ) (r : ℕ) → s ≤ r → pos s *ℤ v +ℤ pos r ≡ pos s *ℤ (v +ℤ pos 1) +ℤ pos (r - s)
      later s v r q = omega (arith, linear, mul-add (pos s) v (pos 1))
