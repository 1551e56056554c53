-- Rows cut into pieces of 64: all pieces together are all rows.
use Rattle.std.proofs.Common.{◌≡◌, ℕ, zero, suc, ◌+◌, ◌-◌, ◌*◌, ◌/◌, ◌%◌, ◌<◌, ◌≢◌, refl, sym, ap, ◌∙◌, ⊎_elim, arith, true, false, cond, min, eqb, eq-eqb, ℤ, pos, ◌+ℤ◌}
use Rattle.std.specs.Prelude.{◌==◌, if◌then◌else◌}
use Rattle.std.specs.Int.{div_ceil}
use Rattle.std.proofs.lemmas.Bool.{cases_lt}
use Rattle.std.proofs.lemmas.Bool.Decides.{nat_tests}
use Rattle.std.proofs.lemmas.Nat.{div-mul-add, mod-mul-add}
use Rattle.std.proofs.lemmas.Grind.{div_ceil_times}
use Rattle.co_math.specs.Sums.{total}
use Rattle.co_math.proofs.Integers.{linear}
use Rattle.co_math.proofs.Totals.{total-same, total-none, total-single, total-blocks, total-zero}

-- a sum in two parts
pub total-cut : (a b : ℕ) (g : ℕ → ℤ) → total (a + b) g ≡ total a g +ℤ total b (λ j. g (a + j))
unfolding total
total-cut a zero g = ap (λ n. total n g) (more a) ∙ sym (plain (total a g))
  where
    more : (a : ℕ) → a + 0 ≡ a
    more a = omega arith

    plain : (x : ℤ) → x +ℤ pos 0 ≡ x
    plain x = omega (arith, linear)
total-cut a (suc b) g =
    ap (λ n. total n g) (more a b) ∙ ap (λ x. x +ℤ g (a + b)) (total-cut a b g) ∙ grouped (total a g) (total b (λ j. g (a + j))) (g (a + b))
  where
    more : (a b : ℕ) → a + suc b ≡ suc (a + b)
    more a b = omega arith

    grouped : (x y z : ℤ) → x +ℤ y +ℤ z ≡ x +ℤ (y +ℤ z)
    grouped x y z = omega (arith, linear)

module _ (rows : ℕ) (g : ℕ → ℤ) where
  -- the first pieces have the first rows
  first_pieces : (count : ℕ) → total count (λ p. total (min 64 (rows - p * 64)) (λ j. g (p * 64 + j))) ≡ total (min rows (count * 64)) g
  unfolding total
  first_pieces zero = let e : min rows (0 * 64) ≡ 0 = omega arith in sym (ap (λ n. total n g) e)
  first_pieces (suc count) =
      ap (λ x. x +ℤ total (min 64 (rows - count * 64)) (λ j. g (count * 64 + j))) (first_pieces count)
      ∙ ⊎_elim
      (λ few.
      let none : min 64 (rows - count * 64) ≡ 0 = omega arith in
      let same : min rows (count * 64) ≡ min rows (suc count * 64) = omega arith in
      ap (λ n. total (min rows (count * 64)) g +ℤ total n (λ j. g (count * 64 + j))) none ∙ plain (total (min rows (count * 64)) g) ∙ ap (λ n. total n g) same)
      (λ some.
      let here : min rows (count * 64) ≡ count * 64 = omega arith in
      let both : count * 64 + min 64 (rows - count * 64) ≡ min rows (suc count * 64) = omega arith in
      ap (λ n. total n g +ℤ total (min 64 (rows - count * 64)) (λ j. g (count * 64 + j))) here ∙ sym (total-cut (count * 64) (min 64 (rows - count * 64)) g) ∙ ap (λ n. total n g) both)
      (cases_lt rows (count * 64))
    where
      plain : (x : ℤ) → x +ℤ pos 0 ≡ x
      plain x = omega (arith, linear)

  -- all pieces have all rows
  pub all_pieces : total (div_ceil rows 64) (λ p. total (min 64 (rows - p * 64)) (λ j. g (p * 64 + j))) ≡ total rows g
  all_pieces =
      let enough = (div_ceil_times rows 64 (omega arith)).0 in
      let all : min rows (div_ceil rows 64 * 64) ≡ rows = omega arith in
      first_pieces (div_ceil rows 64) ∙ ap (λ n. total n g) all

  -- of the units of all chunks those of one chunk have its rows, and the others none
  pub chunk_pieces : (chunks P chunk : ℕ) → P ≡ div_ceil rows 64 → chunk < chunks
      → total (chunks * P) (λ unit. total (if unit / P == chunk then min 64 (rows - unit % P * 64) else 0) (λ j. g (unit % P * 64 + j))) ≡ total rows g
  chunk_pieces chunks P chunk is l =
      let f : ℕ → ℤ = λ (unit : ℕ). total (if unit / P == chunk then min 64 (rows - unit % P * 64) else 0) (λ j. g (unit % P * 64 + j)) in
      let own : ℕ → ℤ = λ (p : ℕ). total (min 64 (rows - p * 64)) (λ j. g (p * 64 + j)) in
      total-blocks chunks P f
      ∙ total-single chunks (λ k. total P (λ p. f (k * P + p))) chunk l
      (λ k u ne. total-none P (λ p. f (k * P + p)) (λ p v. placed k p v ∙ left_out k p (no k chunk ne)))
      ∙ total-same P (λ p. f (chunk * P + p)) own (λ p v. placed chunk p v ∙ taken p (eq-eqb chunk chunk refl))
      ∙ ap (λ n. total n own) is ∙ all_pieces
    where
      placed : (k p : ℕ) → p < P → total (if (k * P + p) / P == chunk then min 64 (rows - (k * P + p) % P * 64) else 0) (λ j. g ((k * P + p) % P * 64 + j))
          ≡ total (if k == chunk then min 64 (rows - p * 64) else 0) (λ j. g (p * 64 + j))
      placed k p v t = total (if div-mul-add k P p v t == chunk then min 64 (rows - mod-mul-add k P p v t * 64) else 0) (λ j. g (mod-mul-add k P p v t * 64 + j))

      no : (k c : ℕ) → k ≢ c → eqb k c ≡ false
      no k c ne = grind (arith, nat_tests)

      left_out : (k p : ℕ) → eqb k chunk ≡ false → total (cond (eqb k chunk) (min 64 (rows - p * 64)) 0) (λ j. g (p * 64 + j)) ≡ pos 0
      left_out k p e = ap (λ b. total (cond b (min 64 (rows - p * 64)) 0) (λ j. g (p * 64 + j))) e ∙ total-zero (λ j. g (p * 64 + j))

      taken : (p : ℕ) → eqb chunk chunk ≡ true → total (cond (eqb chunk chunk) (min 64 (rows - p * 64)) 0) (λ j. g (p * 64 + j)) ≡ total (min 64 (rows - p * 64)) (λ j. g (p * 64 + j))
      taken p e = ap (λ b. total (cond b (min 64 (rows - p * 64)) 0) (λ j. g (p * 64 + j))) e
